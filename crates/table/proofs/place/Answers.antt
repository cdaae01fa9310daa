-- `table::place` meets its contract: a block that holds such a number is looked into, and behind the last block stand zeros. Assumes nothing.
use Prim.Native.Nat.{◌+◌, ◌*◌, ◌≤◌}
use native.Mathlib.Omega.{arith}
use mathlib.Core.Path.{sym, ◌∙◌}
use Rattle.ids.specs.Limits.{most_open}
use Rattle.lists.specs.Count.{first}
use Rattle.lists.proofs.BlockLaws.{block_passed}
use Rattle.table.specs.Places.{passing, block}
use Rattle.table.proofs.SearchLaws.{passing_quiet, none_found, looked_found}
use Rattle.table.proofs.place.Goals as goal

pub loop-n-init : goal.loop-n-init
loop-n-init g c = λ test decides zero. omega arith

pub returns-then-hit : goal.returns-then-hit
returns-then-hit g c = λ test decides zero.
    looked_found _ (block * c.loop-n.n) _ (omega (arith, c.requires.padded.few, c.loop-n-test.true)) (c.loop-n.invariant test decides zero)
    (sym (c.hit.ensures test decides) ∙ c.if-hit.true) (c.look.ensures test decides)

pub loop-n-preserved : goal.loop-n-preserved
loop-n-preserved g c = λ test decides zero.
    let passed : block * c.loop-n.n + block ≤ first most_open (passing test c.args.numbers.now) =
    block_passed most_open _ (block * c.loop-n.n) block (omega (arith, c.requires.padded.few, c.loop-n-test.true)) (c.loop-n.invariant test decides zero)
    (sym (c.hit.ensures test decides) ∙ c.if-hit.false) in
    omega (arith, passed)

pub returns : goal.returns
returns g c = λ test decides zero.
    none_found _ c.args.used (block * c.loop-n.n) (passing_quiet c.requires.padded test zero) (omega (arith, c.loop-n-test.false)) (c.loop-n.invariant test decides zero)
