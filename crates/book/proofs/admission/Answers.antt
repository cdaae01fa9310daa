-- `book::admission` meets its contract: a refused walk or a level too high gets the refusal, and otherwise the level is compared with the walk's
-- end, from where on the level in the way is told. Assumes nothing.
use Rattle.std.proofs.lemmas.Result.{err_from_is_err_and}
use Rattle.book.proofs.BookLaws.{admission_refused, admission_beyond, admission-below, admission-waits, asked}
use Rattle.book.proofs.admission.Goals as goal

pub returns-in_err-walk : goal.returns-in_err-walk
returns-in_err-walk c = let p = err_from_is_err_and c.from_residual.result c.from_residual.ensures.1 in
    rw p.1 (admission_refused _ _ _ c.in_err-walk.ensures _)

pub returns-then-threads-asked : goal.returns-then-threads-asked
returns-then-threads-asked c = admission_beyond _ _ _ c.in_ok-walk.ensures _ c.if-threads-asked.true

pub returns-then-asked-walk : goal.returns-then-asked-walk
returns-then-asked-walk c = admission-below _ _ _ c.in_ok-walk.ensures _ c.if-threads-asked.false c.if-asked-walk.true

pub blocking-requires : goal.blocking-requires
blocking-requires c = asked _ _ _ c.in_ok-walk.ensures _ c.if-threads-asked.false

pub returns : goal.returns
returns c = admission-waits _ _ _ c.in_ok-walk.ensures _ c.if-threads-asked.false c.if-asked-walk.false _ c.blocking.ensures
