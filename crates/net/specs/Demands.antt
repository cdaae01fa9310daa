-- The customer's demands of the values that the library hands back: what the page of demands (`model`, specs/Demands) says of nets holds of them, since the
-- functions of `net` answer by the definitions named here. Assumes nothing.
use Rattle.std.specs.Prelude.{ℕ, ◌≤◌, ◌≡◌, ◌↔◌, List, [], ◌∷◌, Ok, Err}
use Rattle.ids.specs.Limits.{most_edges}
use Rattle.model.specs.Reading.{PlanOk}
use Rattle.model.specs.PlanValue.{records_of}
use Rattle.model.specs.Net.{empty_net}
use Rattle.model.specs.NetRules.{NetRules}
use Rattle.model.specs.Command.{Command, told, step, run, ask, told_standing, room_at, told_roomed}
use Rattle.model.specs.Refusal.{refusal_told, refusal_numbered}
use Rattle.model.specs.Refusals.{net_refusal, plan_refusal}
use Rattle.model.specs.declared.Refusal.{Refusal}
use Rattle.model.specs.Demands.{Safe}
use Rattle.model.specs.declared.Plan.{Plan}
use Rattle.value.specs.View.{core_of, row_of, broken}
use Rattle.value.specs.Handed.{answer_value, told_command, told_ask, told_room, command_answered, ask_answered, room_answered, make_answered}
use Rattle.value.specs.declared.Net.{Net}

-- the net behind some commands, each answered by the library
abbrev pub net_behind : Net → List Command → Net
net_behind net [] = net
net_behind net (c ∷ cs) = net_behind (command_answered net c).net cs

pub record ValueDemands : Type 0 where
  -- "a refused command changes nothing": the very net
  pub refused_same : (net : Net) (c : Command) (why : Refusal) → (command_answered net c).answer ≡ Err why → (command_answered net c).net ≡ net
  -- "Every start, call and return gets LIVE-P's answer .. and leaves the state that the paper and the rules define": those of `step`
  pub answered : (net : Net) → broken net ≡ 0 → (c : Command)
      → ((command_answered net c).answer ≡ answer_value (step (core_of net) c).answer) × (core_of (command_answered net c).net ≡ (step (core_of net) c).core)
  -- and each answer, of questions and rooms too, by the number and the values that the model's has: no refusal is told by another's number
  pub answered_told : (net : Net) → broken net ≡ 0
      → ((c : Command) → told_command (command_answered net c).answer ≡ told (step (core_of net) c).answer)
      × ((ticket : ℕ) → told_ask (ask_answered net ticket) ≡ told_standing (ask (core_of net) ticket))
      × ((s k : ℕ) → told_room (room_answered net s k) ≡ told_roomed (room_at (core_of net) s k))
  -- folding the functions over any commands is the model's run, and no net that they hand back breaks a rule
  pub folded : (net : Net) → broken net ≡ 0 → (commands : List Command)
      → (core_of (net_behind net commands) ≡ run (core_of net) commands) × (broken (net_behind net commands) ≡ 0)
  -- a value breaks no rule exactly where its plan's edges have places and what it tells keeps the net rules; where one is broken every command, every
  -- question and every room is answered 19, and the net handed back as it came
  pub sound_when : (net : Net) → (broken net ≡ 0) ↔ ((net.plan.edges ≤ most_edges) × NetRules (core_of net) (row_of net.counts))
  pub broken_19 : (net : Net) → (broken net ≡ 0 → ⊥)
      → ((c : Command) → command_answered net c ≡ record { answer = Err (refusal_numbered net_refusal); net = net })
      × ((ticket : ℕ) → ask_answered net ticket ≡ Err (refusal_numbered net_refusal)) × ((s k : ℕ) → room_answered net s k ≡ Err (refusal_numbered net_refusal))
  -- and the refusals of these two rows, 18 and 19, are told by the numbers that the table gives them
  pub number_18 : refusal_told (refusal_numbered plan_refusal) ≡ plan_refusal
  pub number_19 : refusal_told (refusal_numbered net_refusal) ≡ net_refusal
  -- a net is made exactly from a plan that is to be accepted, and it is empty and sound
  pub made_when : (p : Plan) → ((make_answered p).answer ≡ Ok tt) ↔ ((p.edges ≤ most_edges) × PlanOk (records_of p))
  pub made_empty : (p : Plan) → (make_answered p).answer ≡ Ok tt
      → (core_of (make_answered p).net ≡ empty_net (records_of p)) × (broken (make_answered p).net ≡ 0)
  -- "From an empty net under an accepted plan, after any commands, refused ones too": demand 3
  pub always_safe : (p : Plan) → (make_answered p).answer ≡ Ok tt → (commands : List Command) → Safe (core_of (net_behind (make_answered p).net commands))
