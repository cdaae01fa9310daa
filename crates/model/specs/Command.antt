-- Commands and what they do to a net, questions and what they answer: document 01, "Starts, calls, returns", with its table and its orders.
-- Assumes nothing.
use Rattle.std.specs.Prelude.{ℕ, Bool, true, false, not, ◌&&◌, cond, List, [], ◌∷◌, length, ltb, eqb}
use Rattle.std.proofs.Math.Option.{Option, none, some}
use Rattle.ids.specs.Limits.{no_ticket, most_open}
use Rattle.ids.specs.Made.{Told}
use Rattle.model.specs.Site.{room}
use Rattle.model.specs.Plan.{Record, threads, has_edge, first_fault}
use Rattle.model.specs.Net.{Call, Core, has_node, site_of, lookup, is_open, is_active, node_of, ticket_of, has_child, counts, admissible, in_the_way}
use Rattle.model.specs.Net.{opened, closed, to_wake, woken}

pub data Command : Type 0 where
  -- ticket, node
  start : ℕ → ℕ → Command
  -- parent, ticket, node
  call : ℕ → ℕ → ℕ → Command
  -- ticket
  return : ℕ → Command
  -- ticket: 02, 4/14, "Take back a call that still waits"
  take_back : ℕ → Command

pub data Answer : Type 0 where
  -- the number of the table
  refused : ℕ → Answer
  active : Answer
  -- the level that is in the way: 02, 1/14, "Starts and calls print it after W"
  waiting : ℕ → Answer
  -- a return or a taking back: the ticket that was admitted, or 0
  ended : ℕ → Answer

-- an answer's number and its values, as everywhere: 0 where nothing is refused; then 1 for active, 0 with the level in the way for waiting, and 2
-- with its ticket for a return
abbrev pub told : Answer → Told
told (refused n) = n ∷ []
told active = 0 ∷ 1 ∷ []
told (waiting k) = 0 ∷ 0 ∷ k ∷ []
told (ended t) = 0 ∷ 2 ∷ t ∷ []

-- Refusals: each test with the number that is given where it fails

-- "Order for a start: 20, 21, 22, 26"
abbrev pub start_tests : List Record → List Call → ℕ → ℕ → List (Bool × ℕ)
start_tests rs cs ticket node =
    (not (eqb ticket no_ticket), 20)
    ∷ (not (is_open (lookup cs ticket)), 21)
    ∷ (has_node rs node, 22)
    ∷ (ltb (length cs) most_open, 26)
    ∷ []

-- "For a call: 20, 21, 23, 24, 22, 25, 26"
abbrev pub call_tests : List Record → List Call → ℕ → ℕ → ℕ → List (Bool × ℕ)
call_tests rs cs parent ticket node =
    (not (eqb ticket no_ticket), 20)
    ∷ (not (is_open (lookup cs ticket)), 21)
    ∷ (is_open (lookup cs parent), 23)
    ∷ (is_active (lookup cs parent), 24)
    ∷ (has_node rs node, 22)
    ∷ (has_edge rs (node_of (lookup cs parent)) node, 25)
    ∷ (ltb (length cs) most_open, 26)
    ∷ []

-- "For a return: 27, 28, 29"
abbrev pub return_tests : List Call → ℕ → List (Bool × ℕ)
return_tests cs ticket =
    (is_open (lookup cs ticket), 27) ∷ (is_active (lookup cs ticket), 28) ∷ (not (has_child cs ticket), 29) ∷ []

-- "Refusals: first 27 if not open, then 34 if active"
abbrev pub back_tests : List Call → ℕ → List (Bool × ℕ)
back_tests cs ticket = (is_open (lookup cs ticket), 27) ∷ (not (is_active (lookup cs ticket)), 34) ∷ []

abbrev pub tests : Core → Command → List (Bool × ℕ)
tests net (start ticket node) = start_tests net.plan net.calls ticket node
tests net (call parent ticket node) = call_tests net.plan net.calls parent ticket node
tests net (return ticket) = return_tests net.calls ticket
tests net (take_back ticket) = back_tests net.calls ticket

-- 01's order lines by themselves (`in_order`, of GivenLaws)
abbrev pub order : Command → List ℕ
order (start ticket node) = 20 ∷ 21 ∷ 22 ∷ 26 ∷ []
order (call parent ticket node) = 20 ∷ 21 ∷ 23 ∷ 24 ∷ 22 ∷ 25 ∷ 26 ∷ []
order (return ticket) = 27 ∷ 28 ∷ 29 ∷ []
order (take_back ticket) = 27 ∷ 34 ∷ []

-- the number of the first test that fails, 0 where the command is accepted
unfoldable pub fault : Core → Command → ℕ
fault net command = first_fault (tests net command)

-- One command

-- the net after a command, and the answer
pub record Outcome : Type 0 where
  pub core : Core
  pub answer : Answer

-- a start or a call that is accepted
unfoldable pub opening : List Record → List Call → ℕ → ℕ → ℕ → Outcome
opening rs cs parent ticket node =
    record {
      core = record { plan = rs; calls = opened rs cs parent ticket node };
      answer = cond (admissible rs cs node) active (waiting (in_the_way rs cs node));
    }

-- "Then, of the calls waiting at that site with an admissible level, the one that has waited longest becomes active. The answer names it, or 0"
unfoldable pub serving : List Record → List Call → ℕ → Outcome
serving rs cs s = record { core = record { plan = rs; calls = woken rs cs s }; answer = ended (ticket_of (to_wake rs cs s)) }

-- "The call leaves .. the others keep their order, and nobody becomes admissible by it", so that nobody is admitted
unfoldable pub withdrawing : List Record → List Call → ℕ → Outcome
withdrawing rs cs ticket = record { core = record { plan = rs; calls = closed cs ticket }; answer = ended no_ticket }

-- what an accepted command does
abbrev pub done : Core → Command → Outcome
done net (start ticket node) = opening net.plan net.calls no_ticket ticket node
done net (call parent ticket node) = opening net.plan net.calls parent ticket node
done net (return ticket) =
    serving net.plan (closed net.calls ticket) (site_of net.plan (node_of (lookup net.calls ticket)))
done net (take_back ticket) = withdrawing net.plan net.calls ticket

abbrev pub decided : Bool → Core → Command → Outcome
decided true net command = done net command
decided false net command = record { core = net; answer = refused (fault net command) }

-- "A refusal hands back its number with the net unchanged"
unfoldable pub step : Core → Command → Outcome
step net command = decided (eqb (fault net command) 0) net command

-- Many commands

abbrev pub run : Core → List Command → Core
run net [] = net
run net (command ∷ rest) = run (step net command).core rest

-- the answers to a run of commands
abbrev pub answers : Core → List Command → List Answer
answers net [] = []
answers net (c ∷ rest) = (step net c).answer ∷ answers (step net c).core rest

-- Questions

-- "a question `A`, `W` or `N` (not open)"
pub data Standing : Type 0 where
  is-running is-waiting not_open : Standing

abbrev pub standing : Option Call → Standing
standing none = not_open
standing (some c) = cond c.active is-running is-waiting

-- told as an answer is: 1 active, 0 waiting, 2 not open
abbrev pub told_standing : Standing → Told
told_standing is-running = 0 ∷ 1 ∷ []
told_standing is-waiting = 0 ∷ 0 ∷ []
told_standing not_open = 0 ∷ 2 ∷ []

unfoldable pub ask : Core → ℕ → Standing
ask net ticket = standing (lookup net.calls ticket)

-- the status page's figure, or a refusal's number: of the net itself 30, "room asked of an unlisted site, or of a level not below its threads"
pub data Roomed : Type 0 where
  has_room : ℕ → Roomed
  room_refused : ℕ → Roomed

abbrev pub told_roomed : Roomed → Told
told_roomed (has_room n) = 0 ∷ n ∷ []
told_roomed (room_refused n) = n ∷ []

-- of a listed site it is what the site book answers (`room-agrees`, of AgreeLaws)
unfoldable pub room_at : Core → ℕ → ℕ → Roomed
room_at net s k =
    cond (not (eqb (threads net.plan s) 0) && ltb k (threads net.plan s))
    (has_room (room (threads net.plan s) (counts net.plan net.calls s) k))
    (room_refused 30)
