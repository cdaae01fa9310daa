-- `audit::take_records` meets its contract. The loop's invariant: the first i edges are taken up behind the records of the sites and nodes.
-- Assumes nothing.
use Rattle.std.specs.Prelude.{Ok}
use Rattle.audit.specs.Taken.{Taken, edges_to}
use Rattle.audit.proofs.take_records.Given as goal

abbrev pub invariant-loop-i : goal.invariant-loop-i
invariant-loop-i l = Taken (edges_to l.plan l.i) (Ok l.audit)
