-- A plan has no fault exactly when its arrays pass and the checks of the end record find nothing. Assumes nothing.
use Prim.Native.Nat.{ℕ}
use mathlib.Core.Path.{◌≡◌, refl, sym, ◌∙◌}
use Rattle.std.specs.Prelude.{Result, Ok, Err}
use Rattle.std.specs.Result.{is_ok}
use Rattle.model.specs.declared.PlanRefusal.{PlanRefusal}
use Rattle.model.proofs.RefusalLaws.{refusal_named}
use Rattle.record.specs.Step.{told_check}
use mathlib.Core.Logic.{◌↔◌}
use mathlib.Core.Bool.{true, false}
use lib.Dec.{eqb, leb}
use borrow.Author.Tests.{leb-true, le-leb, eq-eqb, ne_eqb}
use Rattle.ids.specs.Limits.{most_edges}
use Rattle.lists.proofs.CountLaws.{and_left, and_right, and_both, never_both}
use Rattle.model.specs.Plan.{six, passes, end_fault}
use Rattle.model.specs.PlanValue.{records_of}
use Rattle.model.specs.PlanFault.{plan_fault}
use Rattle.model.specs.declared.Plan.{Plan}
use Rattle.model.proofs.RecordLaws.{passes_ok}
use Rattle.model.proofs.PlanFaultLaws.{no_fault_with}
use Rattle.record.specs.Whole.{WholeFault}
use Rattle.record.proofs.WholeLaws.{whole_is}
use Rattle.audit.specs.Audits.{records_pass}

module _ (p : Plan) where
  no_fault : (plan_fault p ≡ 0) ↔ ((records_pass p ≡ true) × (end_fault (records_of p) ≡ 0))
  unfolding plan_fault records_pass
  no_fault =
      let w = no_fault_with six end_fault p in
      let few = leb p.edges most_edges in
      let pass = passes six (records_of p) in (
        (λ e. let h = w.0 e in (and_both few pass (le-leb p.edges most_edges h.0) h.1, h.2)),
        (λ h. w.1 (leb-true p.edges most_edges (and_left few pass h.0), and_right few pass h.0, h.1)),
      )

  pub array_fault : records_pass p ≡ false → false ≡ eqb (plan_fault p) 0
  array_fault bad = sym (ne_eqb (plan_fault p) 0 (λ e. never_both (no_fault.0 e).0 bad))

  -- behind arrays that pass, the end record decides
  module _ (good : records_pass p ≡ true) {n : ℕ} (found : WholeFault p n) where
    end_is : n ≡ end_fault (records_of p)
    unfolding records_pass
    end_is = whole_is p (passes_ok six (records_of p) (and_right (leb p.edges most_edges) (passes six (records_of p)) good)) found

    pub end_passes : n ≡ 0 → true ≡ eqb (plan_fault p) 0
    end_passes none = sym (eq-eqb (plan_fault p) 0 (no_fault.1 (good, sym end_is ∙ none)))

    pub end_refuses : (n ≡ 0 → ⊥) → false ≡ eqb (plan_fault p) 0
    end_refuses some = sym (ne_eqb (plan_fault p) 0 (λ e. some (end_is ∙ (no_fault.0 e).1)))

  pub end_decides : records_pass p ≡ true → (r : Result (Unit {0}) PlanRefusal) → WholeFault p (told_check r) → is_ok r ≡ eqb (plan_fault p) 0
  end_decides good (Ok passed) found = end_passes good found refl
  end_decides good (Err why) found = end_refuses good found (refusal_named why).1
