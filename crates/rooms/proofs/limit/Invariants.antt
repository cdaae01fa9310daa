-- `rooms::limit` meets its contract. The loop's invariant: `low` is the minimum over the levels below k. Assumes nothing.
use Rattle.rooms.proofs.LimitLaws.{Lowest}
use Rattle.rooms.proofs.limit.Given as goal

abbrev pub invariant-loop-k : goal.invariant-loop-k
invariant-loop-k l = Lowest l.rooms l.base l.threads l.k l.low
