-- `rooms::smallest` meets its contract. The loop's invariant: `low` is the smallest of the levels below k. Assumes nothing.
use Prim.Native.Nat.{◌-◌}
use mathlib.Core.Path.{◌≡◌}
use Rattle.lists.specs.Count.{smallest}
use Rattle.rooms.specs.Rooms.{room_in}
use Rattle.rooms.proofs.smallest.Given as goal

abbrev pub invariant-loop-k : goal.invariant-loop-k
invariant-loop-k l = l.low ≡ smallest (l.k - 1) (room_in l.rooms l.base)
