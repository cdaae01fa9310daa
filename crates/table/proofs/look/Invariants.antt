-- `table::look` meets its contract. The loop's invariant: no number that passes stands in the first j places of the block. Assumes nothing.
use Prim.Native.Nat.{ℕ, ◌≤◌}
use mathlib.Core.Bool.{Bool}
use Rattle.lists.specs.Count.{first}
use Rattle.table.specs.Places.{Decides, passing, past, block}
use Rattle.table.proofs.look.Given as goal

abbrev pub invariant-loop-j : goal.invariant-loop-j
invariant-loop-j g l = (test : ℕ → Bool) → Decides (goal.F-post g l.passes) test → l.j ≤ first block (past l.base (passing test l.numbers))
