-- `tree::calls_from` meets its contract: of counts of another length there are none, and from 64 on there are none either.
-- Assumes nothing.
use native.Mathlib.Omega.{arith}
use borrow.Author.Tests.{eq-eqb}
use Rattle.ids.specs.Limits.{most_threads}
use Rattle.model.proofs.SiteLaws.{A_end}
use Rattle.tree.proofs.calls_from.Goals as goal

pub returns-then-from-gt-THREADS : goal.returns-then-from-gt-THREADS
returns-then-from-gt-THREADS c = simp (eq-eqb _ _ c.if-counts-ne-THREADS.false, A_end c.args.counts.now c.args.from (omega arith))

pub returns : goal.returns
returns c = simp (eq-eqb _ _ c.if-counts-ne-THREADS.false) (omega (arith, A_end c.args.counts.now most_threads (omega arith)))
