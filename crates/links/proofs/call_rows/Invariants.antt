-- `links::call_rows` meets its contract. The loop's invariant: the rows have the call edges of the first i edge records. Assumes nothing.
use mathlib.Core.List.{[]}
use Rattle.model.specs.Plan.{has_edge}
use Rattle.model.specs.PlanValue.{edge_records}
use Rattle.links.specs.Rows.{RowsTell}
use Rattle.links.proofs.call_rows.Given as goal

abbrev pub invariant-loop-i : goal.invariant-loop-i
invariant-loop-i l = RowsTell l.calls.rows (has_edge (edge_records l.plan.pairs l.i []))
