-- How many bytes each text of `shown` may take, and so the room that its function asks for. Assumes nothing.
use Rattle.std.specs.Prelude.{ℕ, ◌+◌, ◌*◌}
use Rattle.ids.specs.Limits.{nodes}
use Rattle.text.specs.Room.{number_room, plan_room}

-- a space and a node's two digits
abbrev pub item_most : ℕ
item_most = 3

-- a node's number, the colon, every node and the newline
abbrev pub line_most : ℕ
line_most = 2 + 1 + nodes * item_most + 1

-- the first line, and a line for each node
abbrev pub shown_most : ℕ
shown_most = plan_room + nodes * line_most

-- with room for one number of any size, which `Page::number` asks for whatever it writes
abbrev pub shown_room : ℕ
shown_room = shown_most + number_room
