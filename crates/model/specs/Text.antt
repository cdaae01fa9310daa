-- What the bench program prints, as lists of bytes: document 01, "The bench program". Items are parted by one space, numbers are decimal, and every
-- line ends in a newline. Assumes nothing.
use Rattle.std.specs.Prelude.{ℕ, zero, suc, ◌+◌, ◌-◌, ◌*◌, ◌/◌, ◌%◌, cond, List, [], ◌∷◌, ◌++◌, ltb}
use Prim.Native.Char.{code}
use Prim.Native.String.{String, len, char_at}
use Rattle.model.specs.Command.{Command, start, call, return, take_back, Answer, refused, active, waiting, ended, Standing, is-running, is-waiting}
use Rattle.model.specs.Command.{not_open, Roomed, has_room, room_refused}

abbrev pub Text : Type 0
Text = List ℕ

-- Numbers

-- `0` to `9`
abbrev pub digit : ℕ → ℕ
digit d = 48 + d

-- the digits of a number, the first one not 0 unless the number is; so many digits at the most
unfoldable pub decimal_in : ℕ → ℕ → Text
decimal_in zero n = []
decimal_in (suc places) n = cond (ltb n 10) (digit n ∷ []) (decimal_in places (n / 10) ++ (digit (n % 10) ∷ []))

-- the most digits that a number of 64 bits takes
abbrev pub most_digits : ℕ
most_digits = 20

unfoldable pub decimal : ℕ → Text
decimal n = decimal_in most_digits n

-- a text of digits read as a number, behind the digits that stand for `before`
unfoldable pub reads_on : ℕ → Text → ℕ
reads_on before [] = before
reads_on before (d ∷ ds) = reads_on (10 * before + (d - 48)) ds

-- Letters and words

abbrev pub codes : ℕ → ℕ → String → Text
codes zero i s = []
codes (suc n) i s = code (char_at s i) ∷ codes n (suc i) s

-- the bytes of a text of plain letters
abbrev pub ascii : String → Text
ascii s = codes (len s) 0 s

-- an item that is a number
unfoldable pub spaced : ℕ → Text
spaced n = ascii " " ++ decimal n

abbrev pub newline : Text
newline = ascii "\n"

-- Answers

-- "`R` and a refusal number"
abbrev pub refusal_text : ℕ → Text
refusal_text n = ascii " R" ++ spaced n

-- "`G` active, `W` waiting", with the level in the way "after W"; "A return prints the ticket admitted or 0"
unfoldable pub answer_text : Answer → Text
answer_text (refused n) = refusal_text n
answer_text active = ascii " G"
answer_text (waiting k) = ascii " W" ++ spaced k
answer_text (ended t) = spaced t

-- "a question `A`, `W` or `N` (not open)"
unfoldable pub standing_text : Standing → Text
standing_text is-running = ascii " A"
standing_text is-waiting = ascii " W"
standing_text not_open = ascii " N"

-- "a room its number"
unfoldable pub room_text : Roomed → Text
room_text (has_room n) = spaced n
room_text (room_refused n) = refusal_text n

-- Lines

-- "`S` ticket; `C` parent ticket; `E` ticket"; a taking back "printed `X`, ticket"
unfoldable pub command_text : Command → Text
command_text (start ticket node) = ascii "S" ++ spaced ticket
command_text (call parent ticket node) = ascii "C" ++ spaced parent ++ spaced ticket
command_text (return ticket) = ascii "E" ++ spaced ticket
command_text (take_back ticket) = ascii "X" ++ spaced ticket

-- "`Q` ticket; `M` site level"
unfoldable pub ask_text : ℕ → Text
ask_text ticket = ascii "Q" ++ spaced ticket

unfoldable pub room_asked_text : ℕ → ℕ → Text
room_asked_text s k = ascii "M" ++ spaced s ++ spaced k

-- "The first line is `plan`, sites, nodes, edges, plan bytes"
unfoldable pub plan_line : ℕ → ℕ → ℕ → ℕ → Text
plan_line sites nodes edges bytes = ascii "plan" ++ spaced sites ++ spaced nodes ++ spaced edges ++ spaced bytes ++ newline

-- "or `plan R`, refusal, offset"
unfoldable pub plan_refused_line : ℕ → ℕ → Text
plan_refused_line number offset = ascii "plan" ++ refusal_text number ++ spaced offset ++ newline

-- "The last line is `done` and the number of commands"
unfoldable pub done_line : ℕ → Text
done_line commands = ascii "done" ++ spaced commands ++ newline

-- "or `bad`, 1 (cut) or 2 (unknown kind), and the record's offset in the whole input"
unfoldable pub bad_line : ℕ → ℕ → Text
bad_line why offset = ascii "bad" ++ spaced why ++ spaced offset ++ newline
