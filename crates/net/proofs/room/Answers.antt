-- `net::room` meets its contract: 19 where a rule is broken; else the room that the run tells of the net. Assumes nothing.
use mathlib.Core.Path.{◌∙◌}
use Rattle.model.specs.Command.{room_at}
use Rattle.value.specs.View.{core_of}
use Rattle.steps.specs.Running.{RoomAsked}
use Rattle.text.specs.Lines.{accepted_told}
use Rattle.entry.proofs.ReadyLaws.{edging, rule_breaks}
use Rattle.net.proofs.AnsweredLaws.{refused_is, refused_room, broken-room, room_there, room_seen}
use borrow.Author.Rules.{rules}
use Rattle.net.proofs.room.Goals as goal

pub prepare-requires-clause-edged : goal.prepare-requires-clause-edged
prepare-requires-clause-edged c = edging c.args.net (search rules) c.call_rows-edges.ensures

pub returns-in_err-prepare : goal.returns-in_err-prepare
returns-in_err-prepare c =
    refused_is _ _ c.from_residual.ensures.1
    ∙ broken-room c.args.net (rule_breaks c.args.net _ c.in_err-prepare.ensures) _ _

pub room-requires : goal.room-requires
room-requires c = (_, room_seen c.args.net c.in_ok-prepare.ensures.runs)

pub returns-in_err-said : goal.returns-in_err-said
returns-in_err-said c = let net = c.args.net in
    let seen = room_seen net c.in_ok-prepare.ensures.runs in
    refused_is _ _ c.from_residual-in_err-said.ensures.1
    ∙ room_there net c.in_ok-prepare.ensures.fault _ _ _ (refused_room _ (room_at (core_of net) c.args.site.0 c.args.level.0) (c.in_err-said.ensures _ seen))

-- the arguments are told first, of any net: where they are not the asked ones the check ends here
pub returns : goal.returns
returns c = let net = c.args.net in
    let asked : RoomAsked c.prepare.new.running.rooms.left net.plan.threads c.args.site.0 c.args.level.0 (accepted_told c.in_ok-said.said) =
    c.in_ok-said.ensures
    in
    let seen = room_seen net c.in_ok-prepare.ensures.runs in
    room_there net c.in_ok-prepare.ensures.fault _ _ _ (c.room_of.ensures (room_at (core_of net) c.args.site.0 c.args.level.0) (asked _ seen))
