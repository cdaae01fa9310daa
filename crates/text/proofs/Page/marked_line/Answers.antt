-- `Page::marked_line` meets its contract: a letter, its numbers and an answer, each with room for what follows. Assumes nothing.
use Prim.Native.Nat.{ℕ, ◌+◌}
use native.Mathlib.Omega.{arith}
use mathlib.Core.Path.{sym, ap}
use Rattle.std.specs.Prelude.{Option}
use Rattle.text.specs.Lines.{asked_text, mark_told, line_text, line2_text}
use Rattle.text.specs.Room.{number_room, answer_room}
use Rattle.text.proofs.PutLaws.{put_then, put_as, room_left}
use Rattle.text.proofs.DigitLaws.{spaced_most}
use Rattle.text.proofs.Page.marked_line.Goals as goal

-- One number
pub mark_end-requires : goal.mark_end-requires
mark_end-requires c =
    let letter = room_left 1 (number_room + number_room + answer_room) c.put.ensures.put (omega arith) (omega (arith, c.requires)) in
    room_left number_room answer_room c.number.ensures.put (spaced_most _ (omega arith)) (omega (arith, letter))

pub returns-in_default-clause-put : goal.returns-in_default-clause-put
unfolding line_text
returns-in_default-clause-put c = put_as (sym (ap (λ (o : Option ℕ). asked_text c.args.word c.args.first o (mark_told c.args.what)) c.in_default.is))
    (put_then (put_then c.put.ensures.put c.number.ensures.put) c.mark_end.ensures.put)

-- Two numbers
pub number-requires-2 : goal.number-requires-2
number-requires-2 c =
    let letter = room_left 1 (number_room + number_room + answer_room) c.put.ensures.put (omega arith) (omega (arith, c.requires)) in
    omega (arith, room_left number_room (number_room + answer_room) c.number.ensures.put (spaced_most _ (omega arith)) (omega (arith, letter)))

pub mark_end-requires-2 : goal.mark_end-requires-2
mark_end-requires-2 c =
    let letter = room_left 1 (number_room + number_room + answer_room) c.put.ensures.put (omega arith) (omega (arith, c.requires)) in
    let half = room_left number_room (number_room + answer_room) c.number.ensures.put (spaced_most _ (omega arith)) (omega (arith, letter)) in
    room_left number_room answer_room c.number-2.ensures.put (spaced_most _ (omega arith)) (omega (arith, half))

pub returns-clause-put : goal.returns-clause-put
unfolding line2_text
returns-clause-put c = put_as (sym (ap (λ (o : Option ℕ). asked_text c.args.word c.args.first o (mark_told c.args.what)) c.in-Some.is))
    (put_then (put_then (put_then c.put.ensures.put c.number.ensures.put) c.number-2.ensures.put) c.mark_end-2.ensures.put)
