-- What the check of a plan value answers, for the contracts of `audit`. Assumes nothing.
use Rattle.std.specs.Prelude.{◌≡◌, Bool, ◌&&◌, leb, Result, Ok, Err}
use Rattle.ids.specs.Limits.{most_edges}
use Rattle.model.specs.Plan.{six, passes}
use Rattle.model.specs.PlanValue.{value, records_of, refusal_number}
use Rattle.model.specs.PlanFault.{plan_fault, checked_plan}
use Rattle.model.specs.declared.Plan.{Plan}
use Rattle.model.specs.declared.PlanRefusal.{PlanRefusal}
use Rattle.record.specs.Step.{told_check}
use Rattle.audit.specs.declared.Audited.{Audited}

-- the number of the first fault, and the plan as it may be kept
pub record Audits (plan : Plan) (r : Audited) : Type 0 where
  pub fault_is : told_check r.checked ≡ plan_fault plan
  pub plan_is : r.plan ≡ checked_plan (plan_fault plan) plan

-- a plan in its one form, where it has no fault, or its first fault
abbrev pub Kept : Plan → Result Plan PlanRefusal → Type 0
Kept plan (Ok held) = (plan_fault plan ≡ 0) × (held ≡ value (records_of plan))
Kept plan (Err why) = refusal_number why ≡ plan_fault plan

-- "the plan's records pass checks 3 to 6 and 9", and their count of edges has places
unfoldable pub records_pass : Plan → Bool
records_pass plan = leb plan.edges most_edges && passes six (records_of plan)
