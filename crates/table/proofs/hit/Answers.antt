-- `table::hit` meets its contract. The loop's invariant: whether a number that passes stands in the first j places of the block. Assumes nothing.
use Prim.Native.Nat.{◌+◌}
use native.Mathlib.Omega.{arith}
use mathlib.Core.Path.{sym}
use Rattle.lists.proofs.BlockLaws.{some_start, some_turn, some_end}
use Rattle.table.specs.Places.{passing, block}
use Rattle.table.proofs.hit.Goals as goal

pub loop-j-init : goal.loop-j-init
loop-j-init g c = λ test decides. sym (some_start _)

pub loop-j-preserved : goal.loop-j-preserved
unfolding passing
loop-j-preserved g c = λ test decides.
    some_turn _ _ _ _ (c.loop-j.invariant test decides)
    (decides _ (omega (arith, c.type_inv.numbers (c.args.base + c.loop-j.j))) _ c.passes-hit.ensures)

pub returns : goal.returns
returns g c = λ test decides. some_end _ block _ _ (omega arith) (c.loop-j.invariant test decides)
