-- `tree::calls_in` meets its contract: the levels from `from` on are cut in two at `to`. Assumes nothing.
use native.Mathlib.Omega.{arith}
use Rattle.tree.proofs.CallLaws.{calls_split}
use Rattle.tree.proofs.calls_in.Goals as goal

pub returns : goal.returns
returns c = omega (arith, c.total.ensures, calls_split c.args.counts.now c.args.from c.args.to c.requires.rising)
