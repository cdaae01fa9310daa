-- `book::admission_level` meets its contract: a refused walk gets 255, and otherwise the walk ends at the firmware's number.
-- Assumes nothing.
use Rattle.std.proofs.Common.{rules}
use Rattle.book.proofs.BookLaws.{firmware_told}
use Rattle.book.proofs.admission_level.Goals as goal

pub returns : goal.returns
returns c = firmware_told _ _ c.descend.result _ c.descend.ensures (search rules)
