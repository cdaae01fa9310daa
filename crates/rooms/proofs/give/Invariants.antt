-- `rooms::give` meets its contract. The loop's invariant: the rooms of the first k levels are one more. Assumes nothing.
use Prim.Native.Nat.{◌+◌}
use Rattle.lists.specs.Fill.{Filled, renewed}
use Rattle.rooms.specs.Rooms.{one_more}
use Rattle.rooms.proofs.give.Given as goal

abbrev pub invariant-loop-k : goal.invariant-loop-k
invariant-loop-k l = Filled (renewed one_more l.initial.rooms) l.base (l.base + l.k) l.initial.rooms l.rooms
