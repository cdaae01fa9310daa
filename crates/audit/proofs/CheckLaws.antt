-- The answers of the check, each by what was asked before it: the count of edges, the records, and then the checks of the end record. Assumes nothing.
use Prim.Native.Nat.{ℕ, ◌<◌, ◌≤◌}
use Rattle.std.specs.Prelude.{Ok}
use mathlib.Core.Path.{◌≡◌, sym, ap, subst, ◌∙◌}
use borrow.Author.Tests.{lt-ltb, le-ltb, eq-eqb, ne_eqb}
use Rattle.ids.specs.Limits.{most_edges}
use Rattle.model.specs.Plan.{six, end_fault}
use Rattle.model.specs.Records.{RecordsOk}
use Rattle.model.specs.PlanValue.{value, records_of, refusal_number}
use Rattle.model.specs.PlanFault.{records_fault, plan_fault}
use Rattle.model.specs.declared.Plan.{Plan}
use Rattle.model.specs.declared.PlanRefusal.{PlanRefusal}
use Rattle.model.proofs.RecordLaws.{passes_ok}
use Rattle.model.proofs.PlanValueLaws.{records_value}
use Rattle.model.proofs.PlanFaultLaws.{records_fault_none}
use Rattle.model.proofs.RefusalLaws.{refusal_named}
use Rattle.record.specs.Whole.{WholeFault}
use Rattle.record.proofs.WholeLaws.{whole_is}
use Rattle.audit.specs.Audits.{Kept}

module _ (p : Plan) where
  pub too_many : most_edges < p.edges → 9 ≡ plan_fault p
  unfolding plan_fault
  too_many h = rw (lt-ltb most_edges p.edges h)

  module _ (room : p.edges ≤ most_edges) where
    pub record_found : (why : PlanRefusal) → refusal_number why ≡ records_fault six (records_of p) → refusal_number why ≡ plan_fault p
    unfolding plan_fault
    record_found why e =
        let bad = ne_eqb (records_fault six (records_of p)) 0 (λ z. (refusal_named why).1 (e ∙ z)) in rw (le-ltb most_edges p.edges room, bad) e

    -- the records have no fault, and a plan holds them
    module _ (none : records_fault six (records_of p) ≡ 0) (held : Plan) (held-is : held ≡ value (records_of p)) where
      right : RecordsOk (records_of p)
      right = passes_ok six (records_of p) ((records_fault_none six (records_of p)).0 none)

      pub end-found : {n : ℕ} → WholeFault held n → n ≡ plan_fault p
      unfolding plan_fault
      end-found fault =
          let same : records_of held ≡ records_of p = ap records_of held-is ∙ records_value (records_of p) right in
          rw (le-ltb most_edges p.edges room, eq-eqb (records_fault six (records_of p)) 0 none)
          (whole_is held (subst RecordsOk (sym same) right) fault ∙ ap end_fault same)

      pub end-passed : WholeFault held 0 → Kept p (Ok held)
      end-passed fault = (sym (end-found fault), held-is)
