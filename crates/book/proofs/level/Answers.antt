-- `book::level` meets its contract: a refused walk gets the refusal, and otherwise the walk's end is the level plus 1. Assumes nothing.
use Rattle.std.proofs.Common.{rules}
use Rattle.std.proofs.lemmas.Result.{err_from_is_err_and}
use Rattle.book.proofs.BookLaws.{level_refused, level_highest}
use Rattle.book.proofs.level.Goals as goal

pub returns-in_err-walked : goal.returns-in_err-walked
returns-in_err-walked c = let p = err_from_is_err_and c.from_residual.result c.from_residual.ensures.1 in
    rw p.1 (level_refused _ _ _ c.in_err-walked.ensures)

pub returns : goal.returns
returns c = level_highest _ _ _ c.in_ok-walked.ensures _ _ c.checked_sub.ensures (search rules)
