-- The checks on the whole plan decide what they are to decide: every step leads to a node that has a record, so that the paths by way of the
-- plan's own nodes are all paths. So a reading accepts exactly the plans that document 01 asks for. Assumes nothing.
use Prim.Native.Nat.{ℕ}
use mathlib.Core.Path.{◌≡◌, refl, sym, ap, ap₂, subst, ◌∙◌}
use mathlib.Core.Logic.{◌↔◌, ⊎_elim}
use mathlib.Core.Bool.{Bool, true, ◌&&◌}
use mathlib.Core.List.Memᴰ
use mathlib.Core.List.{List, [], ◌∷◌, ◌++◌, Memᴰ}
use mathlib.Core.Option.{Option, none, some}
use lib.Dec.{T, eqb, eqb→eq}
use lib.ListN.{length, take}
use lib.Seq.{take_at}
use mir.Facts.{and_yes, yes_and}
use borrow.Author.Tests.{eq-eqb}
use Rattle.lists.proofs.CountLaws.{never_both, not_true_false}
use Rattle.model.specs.Graph.{either, Depends, via}
use Rattle.model.specs.Plan.{Record, node, edge, Place, nodes_of, edges_of, place, among, has_edge, six, passes, descends, site_steps, no_steps}
use Rattle.model.specs.Plan.{numbers, listed, some_backwards, closed_backwards, loops, self_depends, end_fault, encode}
use Rattle.model.specs.Records.{RecordsOk}
use Rattle.model.specs.Reading.{accepted, read, PlanOk}
use Rattle.model.proofs.GraphLaws.{yes, is_true, or_cases, or_by_left, or_by_right, via_sound, via_complete, circle_edge}
use Rattle.model.proofs.FaultLaws.{plan_sound}
use Rattle.model.proofs.ReadingLaws.{read-accepts}
use Rattle.model.proofs.KindLaws.{nodes_in, in_edges, edges_in}
use Rattle.model.proofs.RecordLaws.{place-listed, passes_ok}

-- What the lookups find

-- a call edge is an edge record
module _ (c d : ℕ) where
  among_in : (es : List (ℕ × ℕ)) → T (among es c d) → Memᴰ (c, d) es
  among_in [] h = absurd h
  among_in (e ∷ es) h =
      ⊎_elim
      (λ a.
      let both = and_yes (eqb e.0 c) (eqb e.1 d) a in
      Memᴰ.head (ap₂ (λ (x y : ℕ). (x, y)) (sym (eqb→eq e.0 c both.0)) (sym (eqb→eq e.1 d both.1))))
      (λ b. Memᴰ.tail (among_in es b))
      (or_cases (eqb e.0 c && eqb e.1 d) (among es c d) h)

  in_among : (es : List (ℕ × ℕ)) → Memᴰ (c, d) es → T (among es c d)
  in_among [] m = absurd (Memᴰ.not-nil m)
  in_among (e ∷ es) m =
      ⊎_elim
      (λ (q : (c, d) ≡ e).
      let first = eq-eqb e.0 c (sym (ap (λ (p : ℕ × ℕ). p.0) q)) in
      let second = eq-eqb e.1 d (sym (ap (λ (p : ℕ × ℕ). p.1) q)) in
      or_by_left (eqb e.0 c && eqb e.1 d) (among es c d) (yes_and (eqb e.0 c) (eqb e.1 d) (yes first) (yes second)))
      (λ i. or_by_right (eqb e.0 c && eqb e.1 d) (among es c d) (in_among es i))
      (Memᴰ.cases_cons m)

pub calls_listed : (rs : List Record) (c d : ℕ) → T (has_edge rs c d) → Memᴰ (edge c d) rs
unfolding has_edge
calls_listed rs c d h = in_edges rs (among_in c d (edges_of rs) h)

pub listed_calls : (rs : List Record) (c d : ℕ) → Memᴰ (edge c d) rs → T (has_edge rs c d)
unfolding has_edge
listed_calls rs c d m = in_among c d (edges_of rs) (edges_in rs m)

-- a node with a record is listed
in_numbers : {X : Type 0} (es : List (ℕ × X)) (n : ℕ) (x : X) → Memᴰ (n, x) es → Memᴰ n (numbers es)
in_numbers [] n x m = absurd (Memᴰ.not-nil m)
in_numbers {X} (e ∷ es) n x m =
    ⊎_elim
    (λ (q : (n, x) ≡ e). Memᴰ.head (ap (λ (p : ℕ × X). p.0) q))
    (λ i. Memᴰ.tail (in_numbers es n x i))
    (Memᴰ.cases_cons m)

pub node_listed : (rs : List Record) (n s l : ℕ) → Memᴰ (node n s l) rs → Memᴰ n (listed rs)
unfolding listed
node_listed rs n s l m = in_numbers (nodes_of rs) n (record { at = s; level = l }) (nodes_in rs m)

-- the nodes of a call edge are listed, and so is the node where a step within a site ends
pub call_nodes : (rs : List Record) → RecordsOk rs → (c d : ℕ) → T (has_edge rs c d) → Memᴰ c (listed rs) × Memᴰ d (listed rs)
call_nodes rs ok c d h =
    let w = ok.edge_nodes c d (calls_listed rs c d h) in
    (node_listed rs c w.0.0 w.0.1 w.0.2, node_listed rs d w.1.0 w.1.1 w.1.2)

pub step_node : (rs : List Record) (n m : ℕ) → T (site_steps rs n m) → Memᴰ m (listed rs)
unfolding site_steps
step_node rs n m h = go (place rs n) (place rs m) refl h
  where
    go : (o q : Option Place) → place rs m ≡ q → T (descends o q) → Memᴰ m (listed rs)
    go none q e f = absurd f
    go (some p) none e f = absurd f
    go (some p) (some q) e f = node_listed rs m q.at q.level (place-listed rs m q e)

-- An edge that is closed backwards
module _ (step : ℕ → ℕ → Bool) (ns : List ℕ) where
  some_edge : (es : List (ℕ × ℕ)) → T (some_backwards step ns es) → (e : ℕ × ℕ) × Memᴰ e es × T (via step ns e.1 e.0)
  some_edge [] h = absurd h
  some_edge (e ∷ es) h =
      ⊎_elim
      (λ a. (e, Memᴰ.head refl, a))
      (λ b. let w = some_edge es b in (w.0, Memᴰ.tail w.1, w.2))
      (or_cases (via step ns e.1 e.0) (some_backwards step ns es) h)

  edge_some : (es : List (ℕ × ℕ)) (c d : ℕ) → Memᴰ (c, d) es → T (via step ns d c) → T (some_backwards step ns es)
  edge_some [] c d m h = absurd (Memᴰ.not-nil m)
  edge_some (e ∷ es) c d m h =
      ⊎_elim
      (λ (q : (c, d) ≡ e).
      or_by_left (via step ns e.1 e.0) (some_backwards step ns es)
      (subst (λ (p : ℕ × ℕ). T (via step ns p.1 p.0)) q h))
      (λ i. or_by_right (via step ns e.1 e.0) (some_backwards step ns es) (edge_some es c d i h))
      (Memᴰ.cases_cons m)

-- Checks 7 and 8, over the steps within a site that each of them allows
module _ (rs : List Record) (ok : RecordsOk rs) where
  module _ (steps : ℕ → ℕ → Bool) (inside : (n m : ℕ) → T (steps n m) → Memᴰ m (listed rs)) where
    circle_is : (closed_backwards (either (has_edge rs) steps) (listed rs) rs ≡ true) ↔ ((n : ℕ) × Depends (has_edge rs) steps n n)
    unfolding closed_backwards
    circle_is = (from, into)
      where
        all : ℕ → ℕ → Bool
        all = either (has_edge rs) steps

        ends : (n m : ℕ) → T (all n m) → Memᴰ m (listed rs)
        ends n m h = ⊎_elim (λ a. (call_nodes rs ok n m a).1) (λ b. inside n m b) (or_cases (has_edge rs n m) (steps n m) h)

        from : some_backwards all (listed rs) (edges_of rs) ≡ true → (n : ℕ) × Depends (has_edge rs) steps n n
        from e =
            let w = some_edge all (listed rs) (edges_of rs) (yes e) in
            let u = w.0.0 in
            let v = w.0.1 in
            (circle_edge (has_edge rs) steps).1 (u, v, listed_calls rs u v (in_edges rs w.1), via_sound all (listed rs) w.2)

        into : (n : ℕ) × Depends (has_edge rs) steps n n → some_backwards all (listed rs) (edges_of rs) ≡ true
        into d =
            let w = (circle_edge (has_edge rs) steps).0 d in
            is_true (some_backwards all (listed rs) (edges_of rs))
            (edge_some all (listed rs) (edges_of rs) w.0 w.1
            (edges_in rs (calls_listed rs w.0 w.1 w.2))
            (via_complete all (listed rs) ends w.3))

  -- "the call edges have a loop"
  pub loops_is : (loops rs ≡ true) ↔ ((n : ℕ) × Depends (has_edge rs) no_steps n n)
  unfolding loops
  loops_is = circle_is no_steps (λ n m h. absurd h)

  -- "some node depends on itself"
  pub self_depends-is : (self_depends rs ≡ true) ↔ ((n : ℕ) × Depends (has_edge rs) (site_steps rs) n n)
  unfolding self_depends
  self_depends-is = circle_is (site_steps rs) (step_node rs)

-- a plan passes every check exactly when it is to be accepted
pub plan_ok : (rs : List Record) → ((passes six rs ≡ true) × (end_fault rs ≡ 0)) ↔ PlanOk rs
plan_ok rs = (from, into)
  where
    from : (passes six rs ≡ true) × (end_fault rs ≡ 0) → PlanOk rs
    from h =
        let w = (plan_sound rs).0 h.1 in
        let ok = passes_ok six rs h.0 in
        record {
          records = h.0;
          no_loop = λ n d. never_both ((loops_is rs ok).1 (n, d)) w.0;
          acyclic = λ n d. never_both ((self_depends-is rs ok).1 (n, d)) w.1;
        }

    into : PlanOk rs → (passes six rs ≡ true) × (end_fault rs ≡ 0)
    into plan =
        let ok = passes_ok six rs plan.records in (
          plan.records,
          (plan_sound rs).1 (
            not_true_false (loops rs) (λ e. let w = (loops_is rs ok).0 e in plan.no_loop w.0 w.1),
            not_true_false (self_depends rs) (λ e. let w = (self_depends-is rs ok).0 e in plan.acyclic w.0 w.1),
          ),
        )

-- Bytes are accepted, as these records and with this many bytes used, exactly when they begin with the records' own bytes, those are the bytes
-- used, and the records are a plan that is to be accepted
pub accepted_exactly : (bytes : List ℕ) (rs : List Record) (used : ℕ)
    → (read bytes ≡ accepted rs used) ↔ ((rest : List ℕ) × (bytes ≡ encode rs ++ rest) × (used ≡ length (encode rs)) × PlanOk rs)
unfolding read
accepted_exactly bytes rs used =
    let w = read-accepts six end_fault bytes rs used in (
      (λ e. let g = w.0 e in (g.rest, g.split, g.used_is, (plan_ok rs).0 (g.passing, g.no_fault))),
      (λ g.
          let ok = (plan_ok rs).1 g.3 in
          w.1 (record { rest = g.0; split = g.1; used_is = g.2; passing = ok.0; no_fault = ok.1 })),
    )

-- One file for each plan: whatever two files of the same records hold behind the end record, up to there they are the same bytes
pub one_file : (a b : List ℕ) (rs : List Record) (used also : ℕ)
    → read a ≡ accepted rs used → read b ≡ accepted rs also → (used ≡ also) × (take used a ≡ take also b)
one_file a b rs used also ra rb =
    let x = (accepted_exactly a rs used).0 ra in
    let y = (accepted_exactly b rs also).0 rb in
    let front : (n : ℕ) (bytes rest : List ℕ) → bytes ≡ encode rs ++ rest → n ≡ length (encode rs) → take n bytes ≡ encode rs
    = λ n bytes rest e size. ap (take n) e ∙ take_at (encode rs) rest n (sym size) in
    (x.2 ∙ sym y.2, front used a x.0 x.1 x.2 ∙ sym (front also b y.0 y.1 y.2))
