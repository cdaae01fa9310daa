-- A plan's value has no fault exactly when its records are a plan that is to be accepted, so that no plan that was read is refused as a value:
-- the first fault is 0 where each record passes after those before it. Assumes nothing.
use Prim.Native.Nat.{ℕ, ◌≤◌}
use native.Mathlib.Omega.{arith}
use mathlib.Core.Path.{◌≡◌, refl, sym, ap, subst, ◌∙◌}
use mathlib.Core.Logic.{◌↔◌}
use mathlib.Core.Bool.{Bool, true, false, cond}
use mathlib.Core.List.{List, [], ◌∷◌}
use lib.Dec.{eqb, ltb}
use borrow.Author.Tests.{eqb-true, eqb-false, eq-eqb, ne_eqb, ltb-true, ltb-false}
use Rattle.ids.specs.Limits.{most_edges}
use Rattle.model.specs.Plan.{Record, Levels, six, record_fault, passes, end_fault}
use Rattle.model.specs.Reading.{Ends, PlanOk}
use Rattle.model.specs.PlanValue.{value, records_of}
use Rattle.model.specs.PlanFault.{records_fault, fault_with, plan_fault, checked_plan}
use Rattle.model.specs.declared.Plan.{Plan}
use Rattle.model.proofs.ScanLaws.{passes-step}
use Rattle.model.proofs.RecordLaws.{passes_ok}
use Rattle.model.proofs.PlanLaws.{plan_ok}
use Rattle.model.proofs.PlanValueLaws.{edges-value, records_value}

-- the first of two faults is 0 where both are
none_of_two : (a b : ℕ) → (cond (eqb a 0) b a ≡ 0) ↔ ((a ≡ 0) × (b ≡ 0))
none_of_two a b = go (eqb a 0) refl
  where
    go : (t : Bool) → eqb a 0 ≡ t → (cond t b a ≡ 0) ↔ ((a ≡ 0) × (b ≡ 0))
    go true e = ((λ z. (eqb-true a 0 e, z)), (λ h. h.1))
    go false e = ((λ z. absurd (eqb-false a 0 e z)), (λ h. h.0))

module _ (levels : Levels) where
  -- a record behind a fault leaves it, and behind none its own fault is the first
  module _ (rs : List Record) (r : Record) where
    pub fault_kept : (records_fault levels rs ≡ 0 → ⊥) → records_fault levels (r ∷ rs) ≡ records_fault levels rs
    unfolding records_fault
    fault_kept bad = rw (ne_eqb (records_fault levels rs) 0 bad)

    pub fault_new : records_fault levels rs ≡ 0 → records_fault levels (r ∷ rs) ≡ record_fault levels rs r
    unfolding records_fault
    fault_new none = rw (eq-eqb (records_fault levels rs) 0 none)

  -- no record has a fault exactly when they pass
  pub records_fault_none : (rs : List Record) → (records_fault levels rs ≡ 0) ↔ (passes levels rs ≡ true)
  unfolding records_fault passes
  records_fault_none [] = ((λ e. refl), (λ e. refl))
  records_fault_none (r ∷ rs) =
      let two = none_of_two (records_fault levels rs) (record_fault levels rs r) in
      let rest = records_fault_none rs in
      let step = passes-step levels r rs in (
        (λ z. let h = two.0 z in step.1 (rest.0 h.0, h.1)),
        (λ p. let h = step.0 p in two.1 (rest.1 h.0, h.1)),
      )

  pub no_fault_with : (ends : Ends) (p : Plan)
      → (fault_with levels ends p ≡ 0) ↔ ((p.edges ≤ most_edges) × (passes levels (records_of p) ≡ true) × (ends (records_of p) ≡ 0))
  no_fault_with ends p = go (ltb most_edges p.edges) refl
    where
      rs : List Record
      rs = records_of p

      found : ℕ
      found = cond (eqb (records_fault levels rs) 0) (ends rs) (records_fault levels rs)

      go : (b : Bool) → ltb most_edges p.edges ≡ b
          → (cond b 9 found ≡ 0) ↔ ((p.edges ≤ most_edges) × (passes levels rs ≡ true) × (ends rs ≡ 0))
      go true e = ((λ z. absurd (omega arith)), (λ h. absurd (omega (arith, ltb-true most_edges p.edges e))))
      go false e =
          let two = none_of_two (records_fault levels rs) (ends rs) in
          let pass = records_fault_none rs in (
            (λ z. let h = two.0 z in (ltb-false most_edges p.edges e, pass.0 h.0, h.1)),
            (λ h. two.1 (pass.1 h.1, h.2)),
          )

pub plan_fault_none : (p : Plan) → (plan_fault p ≡ 0) ↔ ((p.edges ≤ most_edges) × PlanOk (records_of p))
unfolding plan_fault
plan_fault_none p =
    let w = no_fault_with six end_fault p in (
      (λ z. let h = w.0 z in (h.0, (plan_ok (records_of p)).0 (h.1, h.2))),
      (λ h. let ok = (plan_ok (records_of p)).1 h.1 in w.1 (h.0, ok.0, ok.1)),
    )

-- a plan that was read is not refused as a value, and comes back as it is
pub read_no_fault : (rs : List Record) → PlanOk rs → plan_fault (value rs) ≡ 0
read_no_fault rs ok =
    let right = passes_ok six rs ok.records in
    (plan_fault_none (value rs)).1 (omega (arith, edges-value rs, right.edge_count), subst PlanOk (sym (records_value rs right)) ok)

pub read_kept : (rs : List Record) → PlanOk rs → checked_plan (plan_fault (value rs)) (value rs) ≡ value rs
read_kept rs ok =
    ap (λ (n : ℕ). checked_plan n (value rs)) (read_no_fault rs ok)
    ∙ ap value (records_value rs (passes_ok six rs ok.records))
