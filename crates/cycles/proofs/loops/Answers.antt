-- `cycles::loops` meets its contract: the loops of the rows are those of the plan. Assumes nothing.
use mathlib.Core.Logic.Iff
use borrow.Author.Rules.{rules}
use Rattle.cycles.proofs.WithinLaws.{loop_rows}
use Rattle.cycles.proofs.loops.Goals as goal

pub returns : goal.returns
returns c = Iff.trans c.circular.ensures (loop_rows (record { is = c.call_rows-calls.ensures; whole = search rules; small = λ n. search rules }))
