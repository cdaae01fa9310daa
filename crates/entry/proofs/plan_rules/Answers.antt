-- `entry::plan_rules` meets its contract: each way out is the first of these rules whose test fails. Assumes nothing.
use Rattle.entry.proofs.BrokenLaws.{edges_many, calls_many}
use Rattle.entry.proofs.PartLaws.{records_last}
use Rattle.entry.proofs.plan_rules.Goals as goal

pub returns-then-net-gt-EDGES : goal.returns-then-net-gt-EDGES
returns-then-net-gt-EDGES c = edges_many c.args.net.now c.if-net-gt-EDGES.true

pub returns-then-net-gt-OPEN : goal.returns-then-net-gt-OPEN
returns-then-net-gt-OPEN c = calls_many c.args.net.now c.if-net-gt-EDGES.false c.if-net-gt-OPEN.true

pub returns : goal.returns
returns c = records_last c.args.net.now c.if-net-gt-EDGES.false c.if-net-gt-OPEN.false _ c.record_rule.ensures
