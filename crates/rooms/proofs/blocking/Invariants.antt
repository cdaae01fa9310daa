-- `rooms::blocking` meets its contract. The loop's invariant: no level from k up to the asked one is full, so that the highest full one is the highest below k.
-- Assumes nothing.
use Prim.Native.Nat.{suc}
use mathlib.Core.Path.{◌≡◌}
use Rattle.lists.specs.Count.{last}
use Rattle.rooms.specs.Rooms.{no_room}
use Rattle.rooms.proofs.blocking.Given as goal

abbrev pub invariant-loop-k : goal.invariant-loop-k
invariant-loop-k l = last (suc l.level) (no_room l.rooms l.base) ≡ last l.k (no_room l.rooms l.base)
