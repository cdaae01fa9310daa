-- `book::room` meets its contract: a refused walk or a level too high gets its refusal, and otherwise the smallest up to the level is told. Assumes nothing.
use Rattle.std.proofs.lemmas.Result.{err_from_is_err_and}
use Rattle.book.proofs.BookLaws.{room_refused, room_beyond, room_below, asked}
use Rattle.book.proofs.room.Goals as goal

pub returns-in_err-descend : goal.returns-in_err-descend
returns-in_err-descend c = let p = err_from_is_err_and c.from_residual.result c.from_residual.ensures.1 in
    rw (p.1, p.2) (room_refused _ _ _ c.in_err-descend.ensures _)

pub returns-then-threads-wanted : goal.returns-then-threads-wanted
returns-then-threads-wanted c = room_beyond _ _ _ c.in_ok-descend.ensures _ c.if-threads-wanted.true

pub least_spare-requires : goal.least_spare-requires
least_spare-requires c = asked _ _ _ c.in_ok-descend.ensures _ c.if-threads-wanted.false

pub returns : goal.returns
returns c = room_below _ _ _ c.in_ok-descend.ensures _ c.if-threads-wanted.false _ c.least_spare.ensures
