-- `text::Page::plan_line` meets its contract: the word, four numbers and the newline, each with room for what follows. Assumes nothing.
use Prim.Native.Nat.{◌+◌, ◌*◌}
use native.Mathlib.Omega.{arith}
use Rattle.model.specs.Text.{plan_line}
use Rattle.text.specs.Room.{long_room}
use Rattle.text.proofs.PutLaws.{put_then, room_left}
use Rattle.text.proofs.DigitLaws.{spaced_long}
use Rattle.text.proofs.Page.plan_line.Goals as goal

pub long_number-requires-2 : goal.long_number-requires-2
long_number-requires-2 c =
    let word = room_left 4 (4 * long_room + 1) c.puts.ensures.put (omega arith) (omega (arith, c.requires)) in
    omega (arith, room_left long_room (3 * long_room + 1) c.long_number.ensures.put (spaced_long _) (omega (arith, word)))

pub long_number-requires-3 : goal.long_number-requires-3
long_number-requires-3 c =
    let word = room_left 4 (4 * long_room + 1) c.puts.ensures.put (omega arith) (omega (arith, c.requires)) in
    let first = room_left long_room (3 * long_room + 1) c.long_number.ensures.put (spaced_long _) (omega (arith, word)) in
    omega (arith, room_left long_room (2 * long_room + 1) c.long_number-2.ensures.put (spaced_long _) (omega (arith, first)))

pub long_number-requires-4 : goal.long_number-requires-4
long_number-requires-4 c =
    let word = room_left 4 (4 * long_room + 1) c.puts.ensures.put (omega arith) (omega (arith, c.requires)) in
    let first = room_left long_room (3 * long_room + 1) c.long_number.ensures.put (spaced_long _) (omega (arith, word)) in
    let second = room_left long_room (2 * long_room + 1) c.long_number-2.ensures.put (spaced_long _) (omega (arith, first)) in
    omega (arith, room_left long_room (long_room + 1) c.long_number-3.ensures.put (spaced_long _) (omega (arith, second)))

pub put-requires : goal.put-requires
put-requires c =
    let word = room_left 4 (4 * long_room + 1) c.puts.ensures.put (omega arith) (omega (arith, c.requires)) in
    let first = room_left long_room (3 * long_room + 1) c.long_number.ensures.put (spaced_long _) (omega (arith, word)) in
    let second = room_left long_room (2 * long_room + 1) c.long_number-2.ensures.put (spaced_long _) (omega (arith, first)) in
    let third = room_left long_room (long_room + 1) c.long_number-3.ensures.put (spaced_long _) (omega (arith, second)) in
    room_left long_room 1 c.long_number-4.ensures.put (spaced_long _) third

pub returns-clause-put : goal.returns-clause-put
unfolding plan_line
returns-clause-put c =
    let two = put_then (put_then c.puts.ensures.put c.long_number.ensures.put) c.long_number-2.ensures.put in
    put_then (put_then (put_then two c.long_number-3.ensures.put) c.long_number-4.ensures.put) c.put.ensures.put
