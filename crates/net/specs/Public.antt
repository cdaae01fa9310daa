-- What the helpers of the net's functions answer. For the contracts of `net`. Assumes nothing.
use Rattle.std.specs.Prelude.{ℕ, ◌≡◌, Ok}
use Rattle.model.specs.Command.{Command, Roomed}
use Rattle.model.specs.Transcript.{command}
use Rattle.text.specs.declared.Printed.{Printed}
use Rattle.text.specs.Lines.{accepted_told, of_room}
use Rattle.decode.specs.Asked.{asked}
use Rattle.decode.specs.declared.Request.{Request}
use Rattle.value.specs.Handed.{command_answered, room_value}
use Rattle.value.specs.declared.Net.{Net}
use Rattle.value.specs.declared.Commanded.{Commanded}

-- a request for a command, and what the command is answered
abbrev pub CommandAsked : Request → Type 0
CommandAsked request = (c : Command) × (asked request ≡ command c)

abbrev pub CommandTold : Net → Request → Commanded → Type 0
CommandTold net request r = (c : Command) → asked request ≡ command c → r ≡ command_answered net c

abbrev pub RoomTold : Printed → ℕ → Type 0
RoomTold said r = (a : Roomed) → accepted_told said ≡ of_room a → Ok r ≡ room_value a
