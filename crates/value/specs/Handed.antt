-- Which value is handed back: a refused command's very net, and else the one value that holds the calls after it. Assumes nothing.
use Rattle.std.specs.Prelude.{ℕ, ◌*◌, ◌/◌, ◌%◌, Bool, cond, List, [], ◌∷◌, length, get_or, eqb, Result, Ok, Err}
use Rattle.ids.specs.Limits.{sites, most_threads, most_open}
use Rattle.ids.specs.Made.{Told}
use Rattle.lists.specs.Tabled.{tabled}
use Rattle.lists.specs.Pick.{tell, passes_at}
use Rattle.model.specs.Plan.{Record}
use Rattle.model.specs.PlanValue.{records_of}
use Rattle.model.specs.PlanFault.{plan_fault, checked_plan}
use Rattle.model.specs.Net.{Call, Core, counts}
use Rattle.model.specs.Command.{Command, Answer, refused, active, waiting, ended, Outcome, step, Standing, is-running, is-waiting, not_open, ask}
use Rattle.model.specs.Command.{Roomed, has_room, room_refused, room_at}
use Rattle.model.specs.Refusal.{refusal_told, refusal_numbered}
use Rattle.model.specs.Refusals.{net_refusal, plan_refusal}
use Rattle.model.specs.declared.Plan.{Plan}
use Rattle.model.specs.declared.Refusal.{Refusal}
use Rattle.value.specs.View.{core_of, broken}
use Rattle.value.specs.declared.Call.{Call as CallValue}
use Rattle.value.specs.declared.Net.{Net}
use Rattle.value.specs.declared.CommandAnswer.{CommandAnswer}
use Rattle.value.specs.declared.Commanded.{Commanded}
use Rattle.value.specs.declared.Standing.{Standing as StandingValue}
use Rattle.value.specs.declared.MadeNet.{MadeNet}

-- The value of a net

abbrev pub holds_thread : Call → Bool
holds_thread c = c.active

-- the call at a place of the table; past the open calls zeros and `false`
unfoldable pub call_at : List Call → ℕ → CallValue
call_at cs i =
    record {
      ticket = record { 0 = tell (λ c. c.ticket) cs i };
      parent = record { 0 = tell (λ c. c.parent) cs i };
      node = record { 0 = tell (λ c. c.node) cs i };
      active = passes_at holds_thread cs i;
    }

unfoldable pub table_of : List Call → List CallValue
table_of cs = tabled most_open (call_at cs)

-- the counts of all sites, one site after the other
unfoldable pub count_at : List Record → List Call → ℕ → ℕ
count_at rs cs i = get_or (counts rs cs (i / most_threads)) (i % most_threads) 0

unfoldable pub counts_table : List Record → List Call → List ℕ
counts_table rs cs = tabled (sites * most_threads) (count_at rs cs)

unfoldable pub value_of : Plan → List Call → Net
value_of p cs = record { plan = p; calls = table_of cs; used = length cs; counts = counts_table (records_of p) cs }

-- Commands

-- an answer as the value of its type; a refusal by its number, of those in the table one for one
abbrev pub answer_value : Answer → Result CommandAnswer Refusal
answer_value (refused n) = Err (refusal_numbered n)
answer_value active = Ok CommandAnswer.Active
answer_value (waiting k) = Ok (CommandAnswer.Waiting (record { 0 = k }))
answer_value (ended t) = Ok (CommandAnswer.Ended (record { 0 = t }))

-- "A refusal hands back its number with the net unchanged"
abbrev pub net_after : Net → Core → Answer → Net
net_after net core (refused n) = net
net_after net core active = value_of net.plan core.calls
net_after net core (waiting k) = value_of net.plan core.calls
net_after net core (ended t) = value_of net.plan core.calls

-- what is handed back of an outcome
abbrev pub outcome_value : Net → Outcome → Commanded
outcome_value net o = record { answer = answer_value o.answer; net = net_after net o.core o.answer }

-- 19 "comes before all others"
unfoldable pub command_answered : Net → Command → Commanded
command_answered net command =
    cond (eqb (broken net) 0) (outcome_value net (step (core_of net) command)) (record { answer = Err (refusal_numbered net_refusal); net = net })

-- Questions

abbrev pub standing_value : Standing → StandingValue
standing_value is-running = StandingValue.Active
standing_value is-waiting = StandingValue.Waiting
standing_value not_open = StandingValue.NotOpen

unfoldable pub ask_answered : Net → ℕ → Result StandingValue Refusal
ask_answered net ticket = cond (eqb (broken net) 0) (Ok (standing_value (ask (core_of net) ticket))) (Err (refusal_numbered net_refusal))

abbrev pub room_value : Roomed → Result ℕ Refusal
room_value (has_room n) = Ok n
room_value (room_refused n) = Err (refusal_numbered n)

unfoldable pub room_answered : Net → ℕ → ℕ → Result ℕ Refusal
room_answered net s k = cond (eqb (broken net) 0) (room_value (room_at (core_of net) s k)) (Err (refusal_numbered net_refusal))

-- Making

-- "18 hands back the empty net of the empty plan"; else the net has no call, over the plan in its one form
unfoldable pub make_answered : Plan → MadeNet
make_answered p =
    record { answer = cond (eqb (plan_fault p) 0) (Ok tt) (Err (refusal_numbered plan_refusal)); net = value_of (checked_plan (plan_fault p) p) [] }

-- An answer's number and its values, as everywhere: 0 where nothing is refused. They are those that the model's answer has (`command_told`,
-- `ask_told`, `room_told` and `make_told`, of ToldLaws)

abbrev pub told_command : Result CommandAnswer Refusal → Told
told_command (Ok CommandAnswer.Active) = 0 ∷ 1 ∷ []
told_command (Ok (CommandAnswer.Waiting level)) = 0 ∷ 0 ∷ level.0 ∷ []
told_command (Ok (CommandAnswer.Ended ticket)) = 0 ∷ 2 ∷ ticket.0 ∷ []
told_command (Err why) = refusal_told why ∷ []

abbrev pub told_ask : Result StandingValue Refusal → Told
told_ask (Ok StandingValue.Active) = 0 ∷ 1 ∷ []
told_ask (Ok StandingValue.Waiting) = 0 ∷ 0 ∷ []
told_ask (Ok StandingValue.NotOpen) = 0 ∷ 2 ∷ []
told_ask (Err why) = refusal_told why ∷ []

abbrev pub told_room : Result ℕ Refusal → Told
told_room (Ok n) = 0 ∷ n ∷ []
told_room (Err why) = refusal_told why ∷ []

abbrev pub told_make : Result Unit Refusal → Told
told_make (Ok made) = 0 ∷ []
told_make (Err why) = refusal_told why ∷ []
