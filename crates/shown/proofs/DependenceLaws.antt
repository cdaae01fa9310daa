-- The test of dependence decides the model's: a path with a call edge on it is a path to some edge of the plan and one on from it. So it is what the table of
-- dependences holds. Assumes nothing.
use Prim.Native.Nat.{ℕ, ◌+◌, ◌*◌, ◌<◌}
use mathlib.Core.Path.{◌≡◌, refl, subst}
use mathlib.Core.Logic.Iff
use mathlib.Core.Logic.{◌↔◌, ⊎_elim}
use mathlib.Core.Bool.{Bool, true}
use mathlib.Core.List.Memᴰ
use mathlib.Core.List.{List, [], ◌∷◌, Memᴰ}
use lib.Dec.{T}
use lib.ListN.{get_or}
use mir.Facts.{and_yes, yes_and}
use borrow.Author.Tests.{eqb-true, eq-eqb}
use Rattle.lists.proofs.CountLaws.{same_verdict}
use Rattle.ids.specs.Limits.{nodes}
use Rattle.model.specs.Graph.{either, Depends, via}
use Rattle.model.specs.Plan.{Record, edges_of, has_edge, site_steps, listed}
use Rattle.model.specs.Records.{RecordsOk}
use Rattle.model.proofs.GraphLaws.{yes, is_true, or_cases, or_by_left, or_by_right, via_sound, via_complete, depends_edge, edge_depends}
use Rattle.model.proofs.KindLaws.{in_edges, edges_in}
use Rattle.model.proofs.PlanLaws.{calls_listed, listed_calls, call_nodes, step_node}
use Rattle.printable.specs.Tables.{TableTells}
use Rattle.cycles.specs.Within.{within_nodes}
use Rattle.cycles.proofs.WithinLaws.{depends_whole}
use Rattle.shown.specs.Dependence.{on_way, some_on_way, node_depends}
use Rattle.shown.specs.Lines.{told_on}

-- An edge on a path from n to m
module _ (step : ℕ → ℕ → Bool) (ns : List ℕ) (n m : ℕ) where
  some_way : (es : List (ℕ × ℕ)) → T (some_on_way step ns n m es) → (e : ℕ × ℕ) × Memᴰ e es × T (on_way step ns n m e)
  some_way [] h = absurd h
  some_way (e ∷ es) h =
      ⊎_elim
      (λ a. (e, Memᴰ.head refl, a))
      (λ b. let w = some_way es b in (w.0, Memᴰ.tail w.1, w.2))
      (or_cases (on_way step ns n m e) (some_on_way step ns n m es) h)

  way_some : (es : List (ℕ × ℕ)) (e : ℕ × ℕ) → Memᴰ e es → T (on_way step ns n m e) → T (some_on_way step ns n m es)
  way_some [] e i h = absurd (Memᴰ.not-nil i)
  way_some (d ∷ es) e i h =
      ⊎_elim
      (λ (q : e ≡ d). or_by_left (on_way step ns n m d) (some_on_way step ns n m es) (subst (λ (x : ℕ × ℕ). T (on_way step ns n m x)) q h))
      (λ j. or_by_right (on_way step ns n m d) (some_on_way step ns n m es) (way_some es e j h))
      (Memᴰ.cases_cons i)

module _ (rs : List Record) (ok : RecordsOk rs) where
  abbrev all : ℕ → ℕ → Bool
  all = either (has_edge rs) (site_steps rs)

  ends : (n m : ℕ) → T (all n m) → Memᴰ m (listed rs)
  ends n m h = ⊎_elim (λ a. (call_nodes rs ok n m a).1) (λ b. step_node rs n m b) (or_cases (has_edge rs n m) (site_steps rs n m) h)

  -- "Node n depends on m if a path leads from n to m with at least one call edge"
  pub node_depends-is : (n m : ℕ) → (node_depends rs n m ≡ true) ↔ Depends (has_edge rs) (site_steps rs) n m
  unfolding node_depends
  node_depends-is n m = (from, into)
    where
      from : some_on_way all (listed rs) n m (edges_of rs) ≡ true → Depends (has_edge rs) (site_steps rs) n m
      from e =
          let w = some_way all (listed rs) n m (edges_of rs) (yes e) in
          let u = w.0.0 in
          let v = w.0.1 in
          let both = and_yes (via all (listed rs) n u) (via all (listed rs) v m) w.2 in
          edge_depends (has_edge rs) (site_steps rs) (via_sound all (listed rs) both.0) (listed_calls rs u v (in_edges rs w.1))
          (via_sound all (listed rs) both.1)

      into : Depends (has_edge rs) (site_steps rs) n m → some_on_way all (listed rs) n m (edges_of rs) ≡ true
      into d =
          let w = depends_edge (has_edge rs) (site_steps rs) d in
          let u = w.0 in
          let v = w.1 in
          is_true (some_on_way all (listed rs) n m (edges_of rs))
          (way_some all (listed rs) n m (edges_of rs) (u, v) (edges_in rs (calls_listed rs u v w.3))
          (yes_and (via all (listed rs) n u) (via all (listed rs) v m)
          (via_complete all (listed rs) ends w.2)
          (via_complete all (listed rs) ends w.4)))

  -- a byte of the table is 1 just there
  pub told_on_depends : (cells : List ℕ) → TableTells cells (Depends (within_nodes (has_edge rs)) (site_steps rs)) → (n m : ℕ) → n < nodes → m < nodes
      → told_on cells n m ≡ node_depends rs n m
  told_on_depends cells tells n m hn hm =
      let byte = get_or cells (nodes * n + m) 0 in
      same_verdict (told_on cells n m) (node_depends rs n m)
      (Iff.trans (eqb-true byte 1, eq-eqb byte 1) (Iff.trans (tells.told n m hn hm) (depends_whole rs ok (site_steps rs) n m)))
      (node_depends-is n m)
