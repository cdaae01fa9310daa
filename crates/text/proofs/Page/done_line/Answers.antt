-- `text::Page::done_line` meets its contract: the word, a number and the newline. Assumes nothing.
use native.Mathlib.Omega.{arith}
use Rattle.model.specs.Text.{done_line}
use Rattle.text.specs.Room.{long_room}
use Rattle.text.proofs.PutLaws.{put_then, room_left}
use Rattle.text.proofs.DigitLaws.{spaced_long}
use Rattle.text.proofs.Page.done_line.Goals as goal

pub put-requires : goal.put-requires
put-requires c = room_left long_room 1 c.long_number.ensures.put (spaced_long _) (room_left 4 _ c.puts.ensures.put (omega arith) (omega (arith, c.requires)))

pub returns-clause-put : goal.returns-clause-put
unfolding done_line
returns-clause-put c = put_then (put_then c.puts.ensures.put c.long_number.ensures.put) c.put.ensures.put
