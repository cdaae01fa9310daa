-- What the rows tell is what the plan says: rows have the pairs of nodes of their relation, steps within a site lead between nodes alone, and a plan that
-- passes its checks has no call edge besides. Assumes nothing.
use Prim.Native.Nat.{ℕ, ◌^◌, ◌<◌, ◌≤◌}
use native.Mathlib.Omega.{arith}
use mathlib.Core.Path.{◌≡◌, refl, sym, ap, ◌∙◌, subst}
use mathlib.Core.Logic.Iff
use mathlib.Core.Logic.{◌↔◌, ⊎_elim}
use mathlib.Core.Bool.{Bool, true, ◌&&◌, ◌||◌}
use mathlib.Core.List.{List}
use mathlib.Core.Option.{Option, none, some}
use lib.Dec.{T, ltb, ltb→lt, lt→ltb}
use lib.ListN.{length, get_or, get_or-eq_default}
use mir.Facts.{and_yes, yes_and}
use Rattle.lists.proofs.CountLaws.{lt_or_ge}
use Rattle.ids.specs.Limits.{nodes}
use Rattle.model.specs.Graph.{either, Reach, Depends}
use Rattle.model.specs.Plan.{Record, Place, place, has_edge, site_steps, no_steps, descends, loops, self_depends}
use Rattle.model.specs.Records.{RecordsOk}
use Rattle.model.specs.PlanValue.{Sized, records_of}
use Rattle.model.specs.declared.Plan.{Plan}
use Rattle.model.proofs.GraphLaws.{or_cases, or_by_left, or_by_right, reach_more, depends_more, circle_edge, circle_loop}
use Rattle.model.proofs.PlanLaws.{calls_listed, loops_is, self_depends-is}
use Rattle.model.proofs.HeldLaws.{held_out, place_of}
use Rattle.words.specs.Words.{member}
use Rattle.words.proofs.WordLaws.{member_zero}
use Rattle.links.specs.Rows.{linked, RowsTell}
use Rattle.graph.specs.Reached.{ClosedBack}
use Rattle.graph.proofs.SetLaws.{member_node}
use Rattle.cycles.specs.Within.{within_nodes}

-- relations with the same pairs have the same dependences
depends_same : {c s d t : ℕ → ℕ → Bool} → ((n m : ℕ) → T (c n m) ↔ T (d n m)) → ((n m : ℕ) → T (s n m) ↔ T (t n m))
    → (n m : ℕ) → Depends c s n m ↔ Depends d t n m
depends_same edges steps n m =
    (depends_more (λ n m. (edges n m).0) (λ n m. (steps n m).0), depends_more (λ n m. (edges n m).1) (λ n m. (steps n m).1))

-- and the same nodes that depend on themselves
circle_same : {c s d t : ℕ → ℕ → Bool} → ((n m : ℕ) → Depends c s n m ↔ Depends d t n m)
    → ((n : ℕ) × Depends c s n n) ↔ ((n : ℕ) × Depends d t n n)
circle_same h = ((λ w. (w.0, (h w.0 w.0).0 w.1)), (λ w. (w.0, (h w.0 w.0).1 w.1)))

-- rows of a relation: a word of 64 bits for each node
pub record RowsWhole (rows : List ℕ) (relation : ℕ → ℕ → Bool) : Type 0 where
  pub is : RowsTell rows relation
  pub whole : length rows ≡ nodes
  pub small : (n : ℕ) → get_or rows n 0 < 2 ^ nodes

-- they have its pairs of nodes
pub rows_within : {rows : List ℕ} {relation : ℕ → ℕ → Bool} → RowsWhole rows relation → (n m : ℕ) → T (linked rows n m) ↔ T (within_nodes relation n m)
unfolding within_nodes linked
rows_within {rows} {relation} told n m = (from, into)
  where
    first : T (linked rows n m) → n < nodes
    first h =
        ⊎_elim
        (λ (p : n < nodes). p)
        (λ (p : nodes ≤ n).
        let none = get_or-eq_default rows 0 {n = n} (omega (arith, told.whole)) in
        absurd (subst T (ap (λ (w : ℕ). member w m) none ∙ member_zero m) h))
        (lt_or_ge n nodes)

    from : T (linked rows n m) → T (within_nodes relation n m)
    from h =
        let hn = first h in
        let hm = member_node (get_or rows n 0) m (told.small n) h in
        yes_and (ltb n nodes) (ltb m nodes && relation n m) (lt→ltb n nodes hn)
        (yes_and (ltb m nodes) (relation n m) (lt→ltb m nodes hm) (subst T (told.is n m hn hm) h))

    into : T (within_nodes relation n m) → T (linked rows n m)
    into h =
        let a = and_yes (ltb n nodes) (ltb m nodes && relation n m) h in
        let b = and_yes (ltb m nodes) (relation n m) a.1 in
        subst T (sym (told.is n m (ltb→lt n nodes a.0) (ltb→lt m nodes b.0))) b.1

-- a relation between nodes alone is all there
within_all : (relation : ℕ → ℕ → Bool) → ((n m : ℕ) → T (relation n m) → (n < nodes) × (m < nodes))
    → (n m : ℕ) → T (within_nodes relation n m) ↔ T (relation n m)
unfolding within_nodes
within_all relation low n m = (
  (λ h. (and_yes (ltb m nodes) (relation n m) (and_yes (ltb n nodes) (ltb m nodes && relation n m) h).1).1),
  (λ h.
      let w = low n m h in
      yes_and (ltb n nodes) (ltb m nodes && relation n m) (lt→ltb n nodes w.0) (yes_and (ltb m nodes) (relation n m) (lt→ltb m nodes w.1) h)),
)

-- the part between nodes of two relations together, of which the second is between nodes alone
either_within : (calls steps : ℕ → ℕ → Bool) → ((n m : ℕ) → T (steps n m) → (n < nodes) × (m < nodes))
    → (n m : ℕ) → T (within_nodes (either calls steps) n m) ↔ T (either (within_nodes calls) steps n m)
unfolding within_nodes
either_within calls steps low n m = (from, into)
  where
    from : T (within_nodes (either calls steps) n m) → T (either (within_nodes calls) steps n m)
    from h =
        let a = and_yes (ltb n nodes) (ltb m nodes && either calls steps n m) h in
        let b = and_yes (ltb m nodes) (either calls steps n m) a.1 in
        ⊎_elim
        (λ call.
        or_by_left (within_nodes calls n m) (steps n m)
        (yes_and (ltb n nodes) (ltb m nodes && calls n m) a.0 (yes_and (ltb m nodes) (calls n m) b.0 call)))
        (or_by_right (within_nodes calls n m) (steps n m))
        (or_cases (calls n m) (steps n m) b.1)

    inside : T (ltb n nodes) → T (ltb m nodes) → T (either calls steps n m) → T (within_nodes (either calls steps) n m)
    inside hn hm h = yes_and (ltb n nodes) (ltb m nodes && either calls steps n m) hn (yes_and (ltb m nodes) (either calls steps n m) hm h)

    into : T (either (within_nodes calls) steps n m) → T (within_nodes (either calls steps) n m)
    into h =
        ⊎_elim
        (λ call.
        let a = and_yes (ltb n nodes) (ltb m nodes && calls n m) call in
        let b = and_yes (ltb m nodes) (calls n m) a.1 in
        inside a.0 b.0 (or_by_left (calls n m) (steps n m) b.1))
        (λ step.
        let w = low n m step in
        inside (lt→ltb n nodes w.0) (lt→ltb m nodes w.1) (or_by_right (calls n m) (steps n m) step))
        (or_cases (within_nodes calls n m) (steps n m) h)

-- The plan's rows: of call edges, and of paths

-- paths over the rows of a relation are paths over the relation
pub paths_tell : (edges paths : List ℕ) (calls steps : ℕ → ℕ → Bool) → RowsTell edges calls → RowsTell paths (either (linked edges) steps)
    → RowsTell paths (either calls steps)
paths_tell edges paths calls steps edge path n m hn hm = path n m hn hm ∙ ap (λ (b : Bool). b || steps n m) (edge n m hn hm)

-- an edge that a path closes backwards, over relations with the same pairs
closed_same : (edges paths : List ℕ) (calls all : ℕ → ℕ → Bool) → ((n m : ℕ) → T (linked edges n m) ↔ T (calls n m))
    → ((n m : ℕ) → T (linked paths n m) ↔ T (all n m))
    → ClosedBack edges paths ↔ ((n : ℕ) × (m : ℕ) × T (calls n m) × Reach all m n)
closed_same edges paths calls all edge path = (
  (λ w. (w.0, w.1, (edge w.0 w.1).0 w.2, reach_more (λ n m. (path n m).0) w.3)),
  (λ w. (w.0, w.1, (edge w.0 w.1).1 w.2, reach_more (λ n m. (path n m).1) w.3)),
)

pub loop_rows : {edges : List ℕ} {calls : ℕ → ℕ → Bool} → RowsWhole edges calls
    → ClosedBack edges edges ↔ ((n : ℕ) × Depends (within_nodes calls) no_steps n n)
loop_rows {edges} {calls} told =
    Iff.trans (closed_same edges edges (within_nodes calls) (within_nodes calls) (rows_within told) (rows_within told))
    (Iff.symm (circle_loop (within_nodes calls) no_steps (λ n m h. h)))

module _ (p : Plan) (sized : Sized p) where
  node_low : (n : ℕ) (q : Place) → place (records_of p) n ≡ some q → n < nodes
  node_low n q e =
      ⊎_elim
      (λ h. h)
      (λ (h : nodes ≤ n).
      let out : some q ≡ none = sym e ∙ place_of p sized n ∙ held_out p sized n h in
      let z : ◌≡◌ {A = ℕ} 0 1 = cc in
      absurd (omega arith))
      (lt_or_ge n nodes)

  steps_low : (n m : ℕ) → T (site_steps (records_of p) n m) → (n < nodes) × (m < nodes)
  unfolding site_steps
  steps_low n m h = go (place (records_of p) n) (place (records_of p) m) refl refl h
    where
      go : (o q : Option Place) → place (records_of p) n ≡ o → place (records_of p) m ≡ q → T (descends o q) → (n < nodes) × (m < nodes)
      go none q e f t = absurd t
      go (some o) none e f t = absurd t
      go (some o) (some q) e f t = (node_low n o e, node_low m q f)

  pub paths_within : {paths : List ℕ} → RowsWhole paths (either (has_edge (records_of p)) (site_steps (records_of p)))
      → (n m : ℕ) → T (linked paths n m) ↔ T (either (within_nodes (has_edge (records_of p))) (site_steps (records_of p)) n m)
  paths_within told n m = Iff.trans (rows_within told n m) (either_within (has_edge (records_of p)) (site_steps (records_of p)) steps_low n m)

  pub circle_rows : {edges paths : List ℕ} → RowsWhole edges (has_edge (records_of p))
      → RowsWhole paths (either (has_edge (records_of p)) (site_steps (records_of p)))
      → ClosedBack edges paths ↔ ((n : ℕ) × Depends (within_nodes (has_edge (records_of p))) (site_steps (records_of p)) n n)
  circle_rows {edges} {paths} calling pathing =
      let calls = within_nodes (has_edge (records_of p)) in
      let steps = site_steps (records_of p) in
      Iff.trans (closed_same edges paths calls (either calls steps) (rows_within calling) (paths_within pathing)) (Iff.symm (circle_edge calls steps))

-- A plan whose records are right: all its call edges are between nodes
module _ (rs : List Record) (ok : RecordsOk rs) where
  calls_low : (n m : ℕ) → T (has_edge rs n m) → (n < nodes) × (m < nodes)
  calls_low n m h =
      let w = ok.edge_nodes n m (calls_listed rs n m h) in
      (ok.node_range n w.0.0 w.0.1 w.0.2, ok.node_range m w.1.0 w.1.1 w.1.2)

  -- so that the restricted dependences are the plan's
  pub depends_whole : (steps : ℕ → ℕ → Bool) (n m : ℕ) → Depends (within_nodes (has_edge rs)) steps n m ↔ Depends (has_edge rs) steps n m
  depends_whole steps = depends_same (within_all (has_edge rs) calls_low) (λ n m. ((λ h. h), (λ h. h)))

  -- and the restricted loops and self-dependences are those of checks 7 and 8
  pub loops_within : (loops rs ≡ true) ↔ ((n : ℕ) × Depends (within_nodes (has_edge rs)) no_steps n n)
  loops_within = Iff.trans (loops_is rs ok) (Iff.symm (circle_same (depends_whole no_steps)))

  pub self_depends_within : (self_depends rs ≡ true) ↔ ((n : ℕ) × Depends (within_nodes (has_edge rs)) (site_steps rs) n n)
  self_depends_within = Iff.trans (self_depends-is rs ok) (Iff.symm (circle_same (depends_whole (site_steps rs))))
