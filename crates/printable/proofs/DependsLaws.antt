-- The nodes on which a node depends: what is reached from it, what is called from there, and what is reached on from that; and over the plan's rows these are
-- the plan's dependences. Assumes nothing.
use Prim.Native.Nat.{ℕ, ◌<◌}
use mathlib.Core.Path.{◌≡◌, refl, sym, ap, ◌∙◌, subst}
use mathlib.Core.Logic.{◌↔◌}
use mathlib.Core.Bool.{Bool, ◌||◌}
use mathlib.Core.List.{List}
use lib.Dec.{T, eqb}
use borrow.Author.Tests.{eqb-true, eq-eqb}
use Rattle.ids.specs.Limits.{nodes}
use Rattle.model.specs.Graph.{either, Reach, Depends}
use Rattle.model.specs.Plan.{has_edge, site_steps}
use Rattle.model.specs.PlanValue.{Sized, records_of}
use Rattle.model.specs.declared.Plan.{Plan}
use Rattle.model.proofs.GraphLaws.{yes, is_true, reach_more, depends_edge, edge_depends}
use Rattle.words.specs.Words.{member, inserted}
use Rattle.words.proofs.WordLaws.{member_zero, member-inserted}
use Rattle.links.specs.Rows.{linked}
use Rattle.graph.specs.Reached.{ReachedFrom}
use Rattle.cycles.specs.Within.{within_nodes}
use Rattle.cycles.proofs.WithinLaws.{RowsWhole, rows_within, paths_within}
use Rattle.printable.specs.Filling.{Called, ByEdge, DependsOn}

-- a set of one node
one_node : (n m : ℕ) → n < nodes → member (inserted 0 n) m ≡ eqb n m
one_node n m small = member-inserted 0 n m small ∙ ap (λ (b : Bool). b || eqb n m) (member_zero m)

pub depended_is : {calls paths : List ℕ} {n before edged all : ℕ} → n < nodes → ReachedFrom paths (inserted 0 n) before → Called calls before edged
    → ReachedFrom paths edged all → DependsOn calls paths n all
depended_is {calls} {paths} {n} {before} {edged} {all} small first middle last m = (from, into)
  where
    from : T (member all m) → ByEdge calls paths n m
    from h =
        let on = last.sound m h in
        let edge = middle.sound on.0 on.1 in
        let to = first.sound edge.0 edge.1 in
        let same = eqb-true n to.0 (sym (one_node n to.0 small) ∙ is_true (member (inserted 0 n) to.0) to.1) in
        (edge.0, on.0, subst (λ (k : ℕ). Reach (linked paths) k edge.0) (sym same) to.2, edge.2, on.2)

    into : ByEdge calls paths n m → T (member all m)
    into (u, v, to, edge, on) =
        let start : T (member (inserted 0 n) n) = yes (one_node n n small ∙ eq-eqb n n refl) in
        last.complete v m (middle.complete u v (first.complete n u start to) edge) on

-- over the plan's rows
module _ (p : Plan) (sized : Sized p) {calls paths : List ℕ} (edge_rows : RowsWhole calls (has_edge (records_of p)))
    (path_rows : RowsWhole paths (either (has_edge (records_of p)) (site_steps (records_of p)))) where
  pub rows_depend : (n m : ℕ) → ByEdge calls paths n m ↔ Depends (within_nodes (has_edge (records_of p))) (site_steps (records_of p)) n m
  rows_depend n m = (from, into)
    where
      edges : ℕ → ℕ → Bool
      edges = within_nodes (has_edge (records_of p))

      steps : ℕ → ℕ → Bool
      steps = site_steps (records_of p)

      there : {a b : ℕ} → Reach (linked paths) a b → Reach (either edges steps) a b
      there r = reach_more (λ a b. (paths_within p sized path_rows a b).0) r

      back : {a b : ℕ} → Reach (either edges steps) a b → Reach (linked paths) a b
      back r = reach_more (λ a b. (paths_within p sized path_rows a b).1) r

      from : ByEdge calls paths n m → Depends edges steps n m
      from (u, v, to, edge, on) = edge_depends edges steps (there to) ((rows_within edge_rows u v).0 edge) (there on)

      into : Depends edges steps n m → ByEdge calls paths n m
      into d =
          let w = depends_edge edges steps d in
          (w.0, w.1, back w.2, (rows_within edge_rows w.0 w.1).1 w.3, back w.4)
