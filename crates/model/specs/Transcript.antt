-- The bench program: document 01, "The bench program". The whole text for a whole input, a plan and then commands. Assumes nothing.
use Rattle.std.specs.Prelude.{ℕ, zero, suc, ◌+◌, ◌*◌, cond, List, [], ◌++◌, length, get_or, drop, eqb}
use Rattle.std.proofs.Math.Option.{none, some}
use Rattle.model.specs.House.{Kinds, Next, lacking, unknown, cut, whole, next}
use Rattle.model.specs.Plan.{sites_of, listed, edges}
use Rattle.model.specs.Reading.{Reading, accepted, refused_at, read}
use Rattle.model.specs.Net.{Core, empty_net}
use Rattle.model.specs.Command.{Command, start, call, return, take_back, step, ask, room_at}
use Rattle.model.specs.Text.{Text, newline, answer_text, standing_text, room_text, command_text, ask_text, room_asked_text, plan_line}
use Rattle.model.specs.Text.{plan_refused_line, done_line, bad_line}

-- what a record asks for
pub data Request : Type 0 where
  command : Command → Request
  -- ticket
  question : ℕ → Request
  -- site, level
  room_question : ℕ → ℕ → Request

-- "Commands, in hex .. 10 start (ticket, node); 11 call (parent, ticket, node); 12 return (ticket); 13 ask (ticket); 14 room (site, level). Tickets
-- have two bytes, the rest one"; 02 adds "hex 15 with a ticket"
abbrev pub command_kinds : Kinds
command_kinds kind =
    cond (eqb kind 0x10) (some 3)
    (cond (eqb kind 0x11) (some 5)
    (cond (eqb kind 0x12) (some 2) (cond (eqb kind 0x13) (some 2) (cond (eqb kind 0x14) (some 2) (cond (eqb kind 0x15) (some 2) none)))))

-- "numbers of two bytes high byte first"
abbrev pub word : List ℕ → ℕ → ℕ
word body i = 256 * get_or body i 0 + get_or body (i + 1) 0

-- a record's kind, one of the table's, and its body
unfoldable pub request : ℕ → List ℕ → Request
request kind body =
    cond (eqb kind 0x10) (command (start (word body 0) (get_or body 2 0)))
    (cond (eqb kind 0x11) (command (call (word body 0) (word body 2) (get_or body 4 0)))
    (cond (eqb kind 0x12) (command (return (word body 0)))
    (cond (eqb kind 0x13) (question (word body 0))
    (cond (eqb kind 0x15) (command (take_back (word body 0))) (room_question (get_or body 0 0) (get_or body 1 0))))))

-- "Then a line for each command .. then the answer"
unfoldable pub line : Core → Request → Text
line net (command c) = command_text c ++ answer_text (step net c).answer ++ newline
line net (question ticket) = ask_text ticket ++ standing_text (ask net ticket) ++ newline
line net (room_question s k) = room_asked_text s k ++ room_text (room_at net s k) ++ newline

-- a question changes nothing
unfoldable pub after : Core → Request → Core
after net (command c) = (step net c).core
after net (question ticket) = net
after net (room_question s k) = net

-- the lines from a place of the input on, behind so many commands, by what stands there; "A refused command does not stop the run"
abbrev pub lines_by : (Core → ℕ → ℕ → List ℕ → Text) → Core → ℕ → ℕ → Next → Text
lines_by go net at commands lacking = done_line commands
lines_by go net at commands unknown = bad_line 2 at
lines_by go net at commands cut = bad_line 1 at
lines_by go net at commands (whole kind body rest) =
    line net (request kind body) ++ go (after net (request kind body)) (at + suc (length body)) (suc commands) rest

-- each turn uses a byte at least, so that as many turns as bytes and one more are enough
unfoldable pub lines : ℕ → Core → ℕ → ℕ → List ℕ → Text
lines zero net at commands bytes = []
lines (suc turns) net at commands bytes = lines_by (lines turns) net at commands (next command_kinds bytes)

-- "or `plan R`, refusal, offset, and nothing more"
abbrev pub behind_plan : List ℕ → Reading → Text
behind_plan input (refused_at number offset) = plan_refused_line number offset
behind_plan input (accepted rs used) =
    plan_line (length (sites_of rs)) (length (listed rs)) (edges rs) used ++ lines (suc (length input)) (empty_net rs) used 0 (drop used input)

-- "It reads a plan and then commands from standard input"
unfoldable pub transcript : List ℕ → Text
transcript input = behind_plan input (read input)
