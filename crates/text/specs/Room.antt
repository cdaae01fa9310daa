-- How many bytes each text of `text` may take: the room that its function asks for. Assumes nothing.
use Rattle.std.specs.Prelude.{ℕ, ◌+◌, ◌*◌, ◌≤◌, length}
use Rattle.text.specs.declared.Page.{Page}

-- a space and five digits
abbrev pub number_room : ℕ
number_room = 6

-- a space and twenty digits
abbrev pub long_room : ℕ
long_room = 21

-- a space, `R` and a number
abbrev pub said_room : ℕ
said_room = 2 + number_room

-- the same and the newline
abbrev pub answer_room : ℕ
answer_room = said_room + 1

-- a command's line: a letter, two numbers and an answer with its newline
abbrev pub line_room : ℕ
line_room = 1 + number_room + number_room + answer_room

-- `plan`, four numbers and the newline
abbrev pub plan_room : ℕ
plan_room = 4 + 4 * long_room + 1

-- `plan R`, two numbers and the newline
abbrev pub plan_refused_room : ℕ
plan_refused_room = 4 + 2 + number_room + long_room + 1

-- `done`, a number and the newline
abbrev pub done_room : ℕ
done_room = 4 + long_room + 1

-- `bad`, two numbers and the newline
abbrev pub bad_room : ℕ
bad_room = 3 + number_room + long_room + 1

-- so many bytes have room on a page
abbrev pub HasRoom : Page → ℕ → Type 0
HasRoom page more = page.at + more ≤ length page.text.now
