-- `rooms::take` meets its contract. The loop's invariant: the rooms of the first k levels are one less. Assumes nothing.
use Prim.Native.Nat.{◌+◌}
use Rattle.lists.specs.Fill.{Filled, renewed}
use Rattle.rooms.specs.Rooms.{one_less}
use Rattle.rooms.proofs.take.Given as goal

abbrev pub invariant-loop-k : goal.invariant-loop-k
invariant-loop-k l = Filled (renewed one_less l.initial.rooms) l.base (l.base + l.k) l.initial.rooms l.rooms
