-- `table::hit` meets its contract. The loop's invariant: whether a number that passes stands in the first j places of the block. Assumes nothing.
use Prim.Native.Nat.{ℕ}
use mathlib.Core.Path.{◌≡◌}
use mathlib.Core.Bool.{Bool}
use Rattle.lists.specs.Count.{some}
use Rattle.table.specs.Places.{Decides, passing, past}
use Rattle.table.proofs.hit.Given as goal

abbrev pub invariant-loop-j : goal.invariant-loop-j
invariant-loop-j g l = (test : ℕ → Bool) → Decides (goal.F-post g l.passes) test → l.hit ≡ some l.j (past l.base (passing test l.numbers))
