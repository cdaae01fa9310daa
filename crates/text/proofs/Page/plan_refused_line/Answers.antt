-- `text::Page::plan_refused_line` meets its contract: the word, two numbers and the newline, each with room for what follows. Assumes nothing.
use Prim.Native.Nat.{◌+◌}
use native.Mathlib.Omega.{arith}
use Rattle.model.specs.Text.{plan_refused_line}
use Rattle.text.specs.Room.{number_room, long_room}
use Rattle.text.proofs.PutLaws.{put_then, room_left}
use Rattle.text.proofs.DigitLaws.{spaced_most, spaced_long}
use Rattle.text.proofs.Page.plan_refused_line.Goals as goal

pub long_number-requires : goal.long_number-requires
long_number-requires c =
    let word = room_left 6 (number_room + long_room + 1) c.puts.ensures.put (omega arith) (omega (arith, c.requires)) in
    omega (arith, room_left number_room (long_room + 1) c.number.ensures.put (spaced_most _ (omega arith)) (omega (arith, word)))

pub put-requires : goal.put-requires
put-requires c =
    let word = room_left 6 (number_room + long_room + 1) c.puts.ensures.put (omega arith) (omega (arith, c.requires)) in
    let first = room_left number_room (long_room + 1) c.number.ensures.put (spaced_most _ (omega arith)) (omega (arith, word)) in
    room_left long_room 1 c.long_number.ensures.put (spaced_long _) first

pub returns-clause-put : goal.returns-clause-put
unfolding plan_refused_line
returns-clause-put c = put_then (put_then (put_then c.puts.ensures.put c.number.ensures.put) c.long_number.ensures.put) c.put.ensures.put
