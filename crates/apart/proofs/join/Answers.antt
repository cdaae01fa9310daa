-- `apart::join` meets its contract: each place that the loop has passed holds its call, and the others are spare. Assumes nothing.
use native.Mathlib.Omega.{arith}
use Rattle.apart.proofs.JoinLaws.{joined_none, joined_more, joined_table}
use Rattle.apart.proofs.join.Goals as goal

pub loop-i-init : goal.loop-i-init
loop-i-init c = joined_none

pub loop-i-preserved : goal.loop-i-preserved
loop-i-preserved c = joined_more c.loop-i.i (omega (arith, c.loop-i-test.true, c.requires.2.count, c.requires.2.few)) c.loop-i.invariant

pub returns : goal.returns
returns c = joined_table c.args.table.now.used c.loop-i.i c.loop-i-test.false c.loop-i.auto.i-end c.loop-i.invariant
