-- `text::Page::long_number` meets its contract: a space, and the digits behind it. Assumes nothing.
use native.Mathlib.Omega.{arith}
use Rattle.model.specs.Text.{spaced}
use Rattle.text.proofs.PutLaws.{put_then, room_left}
use Rattle.text.proofs.DigitLaws.{decimal_most}
use Rattle.text.proofs.Page.long_number.Goals as goal

pub digits-requires : goal.digits-requires
digits-requires c = room_left 1 _ c.put.ensures.put (omega arith) (omega (arith, c.requires, decimal_most c.args.n))

pub returns-clause-put : goal.returns-clause-put
unfolding spaced
returns-clause-put c = put_then c.put.ensures.put c.digits.ensures.put
