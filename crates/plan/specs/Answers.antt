-- What a reading answers, as the contracts of `plan` say it. Assumes nothing.
use Rattle.std.specs.Prelude.{ℕ, ◌≡◌, ◌⊎◌, List, Result, Ok, Err}
use Rattle.model.specs.Reading.{Reading}
use Rattle.model.specs.PlanValue.{refusal_number, told_read, reading_told, reading_plan}
use Rattle.model.specs.declared.Plan.{Plan}
use Rattle.model.specs.declared.PlanRead.{PlanRead}
use Rattle.model.specs.declared.PlanRecord.{PlanRecord}
use Rattle.model.specs.declared.PlanRefusal.{PlanRefusal}
use Rattle.record.specs.Step.{next_in, value_fault}
use Rattle.record.specs.declared.Found.{Found}

-- the answer tells what the reading tells, and the plan is the reading's
pub record ReadTold (r : PlanRead) (reading : Reading) : Type 0 where
  pub answer_is : told_read r.answer ≡ reading_told reading
  pub plan_is : r.plan ≡ reading_plan reading

-- the record that stands at an offset and has no fault behind those of a plan; or else why none does
abbrev pub Turn : List ℕ → ℕ → Plan → PlanRecord → Result Found PlanRefusal → Type 0
Turn bytes at plan last (Ok found) = (next_in bytes at ≡ Ok found) × (0 ≡ value_fault plan.threads plan.places plan.edges last found.next)
Turn bytes at plan last (Err why) =
    (next_in bytes at ≡ Err why)
    ⊎ ((found : Found) × (next_in bytes at ≡ Ok found) × (refusal_number why ≡ value_fault plan.threads plan.places plan.edges last found.next))
