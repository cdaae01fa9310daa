-- `audit::take_nodes` meets its contract. The loop's invariant: the records of the nodes below n are taken up behind those of the sites.
-- Assumes nothing.
use Rattle.std.specs.Prelude.{Ok}
use Rattle.audit.specs.Taken.{Taken, nodes_to}
use Rattle.audit.proofs.take_nodes.Given as goal

abbrev pub invariant-loop-n : goal.invariant-loop-n
invariant-loop-n l = Taken (nodes_to l.plan l.n) (Ok l.audit)
