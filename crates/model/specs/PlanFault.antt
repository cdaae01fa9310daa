-- The first fault of a plan's value, whoever made it: refusal 18 is given for "a plan that breaks any of checks 3 to 9". Assumes nothing.
use Rattle.std.specs.Prelude.{ℕ, cond, List, [], ◌∷◌, eqb, ltb}
use Rattle.ids.specs.Limits.{most_edges}
use Rattle.model.specs.Plan.{Record, Levels, six, record_fault, end_fault}
use Rattle.model.specs.Reading.{Ends}
use Rattle.model.specs.PlanValue.{empty_plan, value, records_of}
use Rattle.model.specs.declared.Plan.{Plan}

-- "The first fault decides": the records' checks in the file's order, 0 where all pass
unfoldable pub records_fault : Levels → List Record → ℕ
records_fault levels [] = 0
records_fault levels (r ∷ rs) = cond (eqb (records_fault levels rs) 0) (record_fault levels rs r) (records_fault levels rs)

-- a count of edges beyond its array is a broken plan, whatever else holds; else the records decide, and behind them the checks on the whole plan
abbrev pub fault_with : Levels → Ends → Plan → ℕ
fault_with levels ends p =
    cond (ltb most_edges p.edges) 9
    (cond (eqb (records_fault levels (records_of p)) 0) (ends (records_of p)) (records_fault levels (records_of p)))

-- check 6 of each node, and "7, then 8"
unfoldable pub plan_fault : Plan → ℕ
plan_fault p = fault_with six end_fault p

-- what is handed on: the plan in its one form, without what stands where no record is, or the empty plan beside a fault
abbrev pub checked_plan : ℕ → Plan → Plan
checked_plan fault p = cond (eqb fault 0) (value (records_of p)) empty_plan
