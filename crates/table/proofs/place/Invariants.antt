-- `table::place` meets its contract. The loop's invariant: no number that passes stands in the first n blocks. Assumes nothing.
use Prim.Native.Nat.{ℕ, ◌*◌, ◌≤◌}
use mathlib.Core.Path.{◌≡◌}
use mathlib.Core.Bool.{Bool, false}
use Rattle.ids.specs.Limits.{most_open}
use Rattle.lists.specs.Count.{first}
use Rattle.table.specs.Places.{Decides, passing, block}
use Rattle.table.proofs.place.Given as goal

abbrev pub invariant-loop-n : goal.invariant-loop-n
invariant-loop-n g l =
    (test : ℕ → Bool) → Decides (goal.F-post g l.passes) test → test 0 ≡ false → block * l.n ≤ first most_open (passing test l.numbers)
