-- `shown::row` meets its contract: each node that is to be named is put behind those before it, with room for what follows. Assumes nothing.
use Prim.Native.Nat.{◌*◌}
use mathlib.Core.Path.{◌≡◌, refl, ap, ◌∙◌}
use native.Mathlib.Omega.{arith}
use Rattle.ids.specs.Limits.{nodes}
use Rattle.text.specs.Room.{number_room}
use Rattle.text.proofs.PutLaws.{put_none, put_then, put_as, room_left}
use Rattle.shown.specs.Lines.{items, told_on}
use Rattle.shown.specs.Room.{item_most}
use Rattle.shown.proofs.NodeLineLaws.{items_none, items_more, items_most}
use Rattle.shown.proofs.row.Goals as goal

pub loop-m-init : goal.loop-m-init
loop-m-init c = (refl, put_as (items_none _) (put_none _ _ (omega (arith, c.requires.room))))

pub item-requires-clause-room : goal.item-requires-clause-room
item-requires-clause-room c =
    let m = c.loop-m.m in
    let few = items_most (told_on c.args.table.now.cells c.args.n) m c.loop-m.auto.m-end in
    room_left (m * item_most) number_room c.loop-m.invariant.1 few (omega (arith, c.requires.room, c.loop-m.auto.m-end))

pub loop-m-preserved : goal.loop-m-preserved
loop-m-preserved c = (c.item.ensures.same_reference ∙ c.loop-m.invariant.0, put_as (items_more _ _) (put_then c.loop-m.invariant.1 c.item.ensures.put))

pub returns-clause-put : goal.returns-clause-put
returns-clause-put c = let all : c.loop-m.m ≡ nodes = omega arith in
    put_as (ap (items (told_on c.args.table.now.cells c.args.n)) all) c.loop-m.invariant.1
