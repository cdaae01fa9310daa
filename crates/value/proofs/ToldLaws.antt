-- The answers as values tell the numbers and the values that the model's answers have. The idea: each number of the commands' table names a refusal, which is
-- told by it, and a refusal of a command is always one of the table. Assumes nothing.
use Rattle.std.proofs.Common.{◌≡◌, ℕ, Bool, true, false, not, ◌&&◌, cond, [], ◌∷◌, refl, ap, eqb, ltb, Result, Ok, Err}
use native.Mathlib.Omega.{arith}
use mathlib.Core.Path.{sym, ◌∙◌}
use Rattle.value.specs.View.{rule_number, rule_told}
use Rattle.value.specs.declared.NetRule.{NetRule}
use borrow.Author.Tests.{eqb-true, eqb-false}
use Rattle.lists.specs.Pick.{all}
use Rattle.lists.proofs.PickLaws.{all_at}
use Rattle.model.specs.Plan.{threads}
use Rattle.model.specs.Site.{room}
use Rattle.model.specs.Net.{Core, counts, admissible, in_the_way}
use Rattle.model.specs.Command.{Command, start, call, return, take_back, active, waiting, told, order, fault, opening, serving, withdrawing, step, decided, done}
use Rattle.model.specs.Command.{Standing, is-running, is-waiting, not_open, told_standing, has_room, room_refused, told_roomed, room_at}
use Rattle.model.specs.Refusals.{plan_refusal}
use Rattle.model.specs.PlanFault.{plan_fault}
use Rattle.model.specs.declared.Plan.{Plan}
use Rattle.model.specs.declared.Refusal.{Refusal}
use Rattle.model.specs.Refusal.{refusal_told, refusal_numbered}
use Rattle.model.proofs.GivenLaws.{from_table}
use Rattle.value.specs.Handed.{answer_value, standing_value, room_value, told_command, told_ask, told_room, told_make, make_answered}

-- a number that names its refusal
abbrev named : ℕ → Bool
named n = eqb (refusal_told (refusal_numbered n)) n

each_named : (c : Command) → all named (order c) ≡ true
unfolding all
each_named (start ticket node) = refl
each_named (call parent ticket node) = refl
each_named (return ticket) = refl
each_named (take_back ticket) = refl

refusal_named : (net : Core) (c : Command) → (fault net c ≡ 0 → ⊥) → refusal_told (refusal_numbered (fault net c)) ≡ fault net c
refusal_named net c bad = eqb-true _ _ (all_at named (order c) (each_named c) (fault net c) (from_table net c bad))

-- a command that is accepted is answered by no refusal
newcomer_told : (b : Bool) (k : ℕ) → told_command (answer_value (cond b active (waiting k))) ≡ told (cond b active (waiting k))
newcomer_told true k = refl
newcomer_told false k = refl

accepted_told : (net : Core) (c : Command) → told_command (answer_value (done net c).answer) ≡ told (done net c).answer
unfolding opening serving withdrawing
accepted_told net (start ticket node) = newcomer_told (admissible net.plan net.calls node) (in_the_way net.plan net.calls node)
accepted_told net (call parent ticket node) = newcomer_told (admissible net.plan net.calls node) (in_the_way net.plan net.calls node)
accepted_told net (return ticket) = refl
accepted_told net (take_back ticket) = refl

pub command_told : (net : Core) (c : Command) → told_command (answer_value (step net c).answer) ≡ told (step net c).answer
unfolding step
command_told net c = go (eqb (fault net c) 0) refl
  where
    go : (b : Bool) → eqb (fault net c) 0 ≡ b → told_command (answer_value (decided b net c).answer) ≡ told (decided b net c).answer
    go true e = accepted_told net c
    go false e = ap (λ (m : ℕ). m ∷ []) (refusal_named net c (eqb-false (fault net c) 0 e))

pub ask_told : (s : Standing) → told_ask (Ok (standing_value s)) ≡ told_standing s
ask_told is-running = refl
ask_told is-waiting = refl
ask_told not_open = refl

pub room_told : (net : Core) (s k : ℕ) → told_room (room_value (room_at net s k)) ≡ told_roomed (room_at net s k)
unfolding room_at
room_told net s k = go (not (eqb (threads net.plan s) 0) && ltb k (threads net.plan s)) (room (threads net.plan s) (counts net.plan net.calls s) k)
  where
    go : (b : Bool) (n : ℕ) → told_room (room_value (cond b (has_room n) (room_refused 30))) ≡ told_roomed (cond b (has_room n) (room_refused 30))
    go true n = refl
    go false n = refl

-- "a net is to be made from a plan that breaks any of checks 3 to 9": 18
pub make_told : (p : Plan) → told_make (make_answered p).answer ≡ cond (eqb (plan_fault p) 0) 0 plan_refusal ∷ []
unfolding make_answered
make_told p = go (eqb (plan_fault p) 0)
  where
    go : (b : Bool) → told_make (cond b (Ok tt) (Err Refusal.BrokenPlan)) ≡ cond b 0 plan_refusal ∷ []
    go true = refl
    go false = refl

-- A rule's number names it, and none is 0

abbrev rule_numbered : ℕ → NetRule
rule_numbered n =
    cond (eqb n 1) NetRule.Plan
    (cond (eqb n 2) NetRule.Tickets
    (cond (eqb n 3) NetRule.Nodes
    (cond (eqb n 4) NetRule.Parents
    (cond (eqb n 5) NetRule.Counts
    (cond (eqb n 6) NetRule.Sites
    (cond (eqb n 7) NetRule.Waiting NetRule.TooManyOpen))))))

rule_named : (rule : NetRule) → (rule_numbered (rule_number rule) ≡ rule) × (rule_number rule ≡ 0 → ⊥)
rule_named NetRule.Plan = (refl, λ e. omega arith)
rule_named NetRule.Tickets = (refl, λ e. omega arith)
rule_named NetRule.Nodes = (refl, λ e. omega arith)
rule_named NetRule.Parents = (refl, λ e. omega arith)
rule_named NetRule.Counts = (refl, λ e. omega arith)
rule_named NetRule.Sites = (refl, λ e. omega arith)
rule_named NetRule.Waiting = (refl, λ e. omega arith)
rule_named NetRule.TooManyOpen = (refl, λ e. omega arith)

-- so that what a test of the rules tells determines its answer
pub rule_injective : (x y : Result (Unit {0}) NetRule) → rule_told x ≡ rule_told y → x ≡ y
rule_injective (Ok x) (Ok y) e = refl
rule_injective (Ok x) (Err rule) e = absurd ((rule_named rule).1 (sym e))
rule_injective (Err rule) (Ok y) e = absurd ((rule_named rule).1 e)
rule_injective (Err a) (Err b) e = ap Err (sym (rule_named a).0 ∙ ap rule_numbered e ∙ (rule_named b).0)
