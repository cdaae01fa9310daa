-- `shown::node_lines` meets its contract: each line is put behind those before it, with room for what follows. Assumes nothing.
use Prim.Native.Nat.{◌*◌, ◌+◌}
use native.Mathlib.Omega.{arith}
use mathlib.Core.Path.{◌≡◌, refl, ap, ◌∙◌}
use Rattle.ids.specs.Limits.{nodes}
use Rattle.text.specs.Room.{number_room}
use Rattle.text.proofs.PutLaws.{put_none, put_then, put_as, room_left}
use Rattle.shown.specs.Lines.{node_texts, is_listed, told_on}
use Rattle.shown.specs.Room.{line_most}
use Rattle.shown.proofs.NodeLineLaws.{texts_none, texts_more, texts_most}
use Rattle.shown.proofs.node_lines.Goals as goal

pub loop-n-init : goal.loop-n-init
loop-n-init c = (refl, put_as (texts_none _ _) (put_none _ _ (omega (arith, c.requires))))

pub node_line-requires-clause-room : goal.node_line-requires-clause-room
node_line-requires-clause-room c =
    let n = c.loop-n.n in
    let few = texts_most (is_listed c.args.plan.now.places) (told_on c.args.table.now.cells) n c.loop-n.auto.n-end in
    room_left (n * line_most) (line_most + number_room) c.loop-n.invariant.1 few (omega (arith, c.requires, c.loop-n-test.true))

pub loop-n-preserved : goal.loop-n-preserved
loop-n-preserved c =
    (c.node_line.ensures.same_reference ∙ c.loop-n.invariant.0, put_as (texts_more _ _ _) (put_then c.loop-n.invariant.1 c.node_line.ensures.put))

pub returns-clause-put : goal.returns-clause-put
returns-clause-put c = let all : c.loop-n.n ≡ nodes = omega arith in
    put_as (ap (node_texts (is_listed c.args.plan.now.places) (told_on c.args.table.now.cells)) all) c.loop-n.invariant.1
