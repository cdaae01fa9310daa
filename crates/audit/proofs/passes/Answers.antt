-- `audit::passes` meets its contract: the count of edges, and then whether each entry of the arrays fits, which is whether the records pass.
-- Assumes nothing.
use Rattle.std.proofs.Common.{rules}
use Rattle.model.specs.PlanValue.{Sized}
use Rattle.audit.proofs.PassLaws.{too_many_fail, records-pass-is}
use Rattle.audit.proofs.passes.Goals as goal

pub returns-then-plan-gt-EDGES : goal.returns-then-plan-gt-EDGES
returns-then-plan-gt-EDGES c = too_many_fail c.args.plan c.if-plan-gt-EDGES.true

pub returns-then-nodes_pass : goal.returns-then-nodes_pass
returns-then-nodes_pass c =
    let sized : Sized c.args.plan = search rules in rw (records-pass-is c.args.plan sized c.if-plan-gt-EDGES.false) (search rules)

pub returns-else-nodes_pass : goal.returns-else-nodes_pass
returns-else-nodes_pass c =
    let sized : Sized c.args.plan = search rules in rw (records-pass-is c.args.plan sized c.if-plan-gt-EDGES.false) (search rules)
