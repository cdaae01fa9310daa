-- The file lies within its buffer.
use Rattle.std.proofs.Common.{sym, length-take-le}
use Rattle.writing.proofs.AnswerLaws.{written_inside}
use Rattle.rewrite.proofs.main.Goals as goal

pub slice_bounds-file-end : goal.slice_bounds-file-end
slice_bounds-file-end c = written_inside _ c.in-Ok.is c.write.ensures

pub slice_bounds-write_all-end-in-Ok : goal.slice_bounds-write_all-end-in-Ok
slice_bounds-write_all-end-in-Ok c = sym (length-take-le _ _ (written_inside _ c.in-Ok.is c.write.ensures))
