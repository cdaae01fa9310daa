-- `shown::node_line` meets its contract: nothing for a node that is nowhere, else its number, the colon, the row and the newline. Assumes nothing.
use Prim.Native.Nat.{◌+◌, ◌*◌}
use native.Mathlib.Omega.{arith}
use Rattle.ids.specs.Limits.{nodes}
use Rattle.text.specs.Room.{number_room}
use Rattle.text.proofs.PutLaws.{put_none, put_then, put_as, room_left}
use Rattle.shown.specs.Room.{item_most}
use Rattle.shown.proofs.NodeLineLaws.{line_none, line_there, decimal_short, items_most}
use Rattle.shown.proofs.node_line.Goals as goal

pub returns-then-place-eq-NOWHERE-clause-put : goal.returns-then-place-eq-NOWHERE-clause-put
returns-then-place-eq-NOWHERE-clause-put c = put_as (line_none _ _ _ c.if-place-eq-NOWHERE.true) (put_none _ _ (omega (arith, c.requires.room)))

pub digits-requires : goal.digits-requires
digits-requires c = omega (arith, c.requires.room, decimal_short c.args.n (omega (arith, c.requires.node)))

-- the room behind the number, behind the colon and behind the row

pub put-requires : goal.put-requires
put-requires c =
    let few = decimal_short c.args.n (omega (arith, c.requires.node)) in
    omega (arith, room_left 2 (1 + (nodes * item_most + number_room)) c.digits.ensures.put few (omega (arith, c.requires.room)))

pub row-requires-clause-room : goal.row-requires-clause-room
row-requires-clause-room c =
    let few = decimal_short c.args.n (omega (arith, c.requires.node)) in
    let number = room_left 2 (1 + (nodes * item_most + number_room)) c.digits.ensures.put few (omega (arith, c.requires.room)) in
    omega (arith, room_left 1 (nodes * item_most + number_room) c.put.ensures.put (omega arith) number)

pub put-requires-2 : goal.put-requires-2
put-requires-2 c =
    let few = decimal_short c.args.n (omega (arith, c.requires.node)) in
    let number = room_left 2 (1 + (nodes * item_most + number_room)) c.digits.ensures.put few (omega (arith, c.requires.room)) in
    let colon = room_left 1 (nodes * item_most + number_room) c.put.ensures.put (omega arith) number in
    omega (arith, room_left (nodes * item_most) number_room c.row.ensures.put (items_most _ nodes (omega arith)) colon)

pub returns-clause-put : goal.returns-clause-put
returns-clause-put c = put_as (line_there _ _ _ c.if-place-eq-NOWHERE.false) (put_then (put_then (put_then c.digits.ensures.put c.put.ensures.put) c.row.ensures.put) c.put-2.ensures.put)
