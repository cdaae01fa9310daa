-- `table::look` meets its contract. The loop's invariant: no number that passes stands in the first j places of the block. Assumes nothing.
use Prim.Native.Nat.{◌+◌}
use native.Mathlib.Omega.{arith}
use mathlib.Core.Path.{sym, ◌∙◌}
use Rattle.lists.proofs.BlockLaws.{first_passed, first_here, none_some}
use Rattle.lists.proofs.CountLaws.{first_before}
use Rattle.table.specs.Places.{passing, past, block}
use Rattle.table.proofs.look.Goals as goal

pub loop-j-init : goal.loop-j-init
loop-j-init g c = λ test decides. omega arith

pub returns-then-passes : goal.returns-then-passes
unfolding passing
returns-then-passes g c = λ test decides.
    let says = decides _ (omega (arith, c.type_inv.numbers (c.args.base + c.loop-j.j))) _ c.passes.ensures in
    omega (arith, first_here block _ c.loop-j.j (omega arith) (c.loop-j.invariant test decides) (sym says ∙ c.if-passes.true))

pub loop-j-preserved : goal.loop-j-preserved
unfolding passing
loop-j-preserved g c = λ test decides.
    let says = decides _ (omega (arith, c.type_inv.numbers (c.args.base + c.loop-j.j))) _ c.passes.ensures in
    first_passed block _ c.loop-j.j (omega arith) (c.loop-j.invariant test decides) (sym says ∙ c.if-passes.false)

pub returns : goal.returns
returns g c = λ test decides.
    let low = c.loop-j.invariant test decides in
    let f = past c.args.base (passing test c.args.numbers.now) in
    none_some block f (λ k h. first_before block f k (omega arith))
