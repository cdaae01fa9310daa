-- `table::somewhere` meets its contract: a block that holds such a number shows it, and behind the last block stand zeros. Assumes nothing.
use Prim.Native.Nat.{◌+◌, ◌*◌, ◌≤◌}
use native.Mathlib.Omega.{arith}
use mathlib.Core.Path.{sym, ◌∙◌}
use Rattle.ids.specs.Limits.{most_open}
use Rattle.lists.specs.Count.{first}
use Rattle.lists.proofs.BlockLaws.{block_passed}
use Rattle.table.specs.Places.{passing, block}
use Rattle.table.proofs.SearchLaws.{passing_quiet, none_there, block_there}
use Rattle.table.proofs.somewhere.Goals as goal

pub loop-k-init : goal.loop-k-init
loop-k-init g c = λ test decides zero. omega arith

pub returns-then-hit : goal.returns-then-hit
returns-then-hit g c = λ test decides zero.
    sym (block_there _ (block * c.loop-k.k) block (omega (arith, c.requires.padded.few, c.loop-k-test.true)) (sym (c.hit.ensures test decides) ∙ c.if-hit.true))

pub loop-k-preserved : goal.loop-k-preserved
loop-k-preserved g c = λ test decides zero.
    let passed : block * c.loop-k.k + block ≤ first most_open (passing test c.args.numbers.now) =
    block_passed most_open _ (block * c.loop-k.k) block (omega (arith, c.requires.padded.few, c.loop-k-test.true)) (c.loop-k.invariant test decides zero)
    (sym (c.hit.ensures test decides) ∙ c.if-hit.false) in
    omega (arith, passed)

pub returns : goal.returns
returns g c = λ test decides zero.
    sym (none_there _ c.args.used (block * c.loop-k.k) (passing_quiet c.requires.padded test zero) (omega (arith, c.loop-k-test.false)) (c.loop-k.invariant test decides zero))
