-- `apart::join` meets its contract: each place that the loop has passed holds its call, and the others are spare. Assumes nothing.
use Rattle.apart.proofs.JoinLaws.{JoinedBelow}
use Rattle.apart.proofs.join.Given as goal

abbrev pub invariant-loop-i : goal.invariant-loop-i
invariant-loop-i l = JoinedBelow l.table.tickets l.table.parents l.table.keys l.table.nodes l.calls l.i
