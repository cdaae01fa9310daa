-- The demands hold of the values: each command's net tells the core behind the model's step and breaks no rule, so that any fold of commands does, from the net
-- that is made of an accepted plan. Assumes nothing.
use Prim.Native.Nat.{ℕ, ◌≤◌}
use native.Mathlib.Omega.{arith}
use mathlib.Core.Path.{◌≡◌, refl, sym, ap, subst, ◌∙◌}
use mathlib.Core.Logic.{◌↔◌, ⊎_elim}
use mathlib.Core.Bool.{Bool, true, false, cond}
use mathlib.Core.List.{List, [], ◌∷◌}
use Rattle.std.specs.Prelude.{Result, Ok, Err}
use lib.Dec.{eqb}
use borrow.Author.Tests.{eq-eqb, eqb-true, eqb-false}
use Rattle.ids.specs.Limits.{most_edges}
use Rattle.lists.proofs.CountLaws.{true_or_false}
use Rattle.model.specs.Plan.{Record, six}
use Rattle.model.specs.Reading.{PlanOk}
use Rattle.model.specs.PlanValue.{records_of, value}
use Rattle.model.specs.PlanFault.{plan_fault, checked_plan}
use Rattle.model.specs.Net.{Core, admissible, in_the_way, empty_net}
use Rattle.model.specs.NetRules.{Keeps}
use Rattle.model.specs.Command.{Command, start, call, return, take_back, Answer, refused, active, waiting, ended, fault, done, opening, serving, withdrawing, step, run, ask, room_at}
use Rattle.model.specs.Demands.{Safe}
use Rattle.model.specs.Refusal.{refusal_numbered}
use Rattle.model.specs.Refusals.{net_refusal, plan_refusal}
use Rattle.model.specs.declared.Refusal.{Refusal}
use Rattle.model.specs.declared.Plan.{Plan}
use Rattle.model.proofs.PlanFaultLaws.{plan_fault_none}
use Rattle.model.proofs.PlanValueLaws.{edges-value, records_value}
use Rattle.model.proofs.RecordLaws.{passes_ok}
use Rattle.model.proofs.StepLaws.{accepted_step, refused_step, step_keeps, step_plan, empty_keeps}
use Rattle.model.proofs.Demands.{demand_3}
use Rattle.value.specs.View.{core_of, broken}
use Rattle.value.specs.Handed.{value_of, answer_value, net_after, outcome_value, command_answered, ask_answered, room_answered, make_answered, standing_value, room_value, told_command, told_ask, told_room}
use Rattle.value.proofs.ToldLaws.{command_told, ask_told, room_told}
use Rattle.value.specs.declared.Net.{Net}
use Rattle.net.specs.Demands.{net_behind, ValueDemands}
use Rattle.net.proofs.ValueLaws.{core_back, value_sound, sound_parts, sound_rules, rules_sound, sound_keeps}
use Rattle.net.proofs.AnsweredLaws.{broken_answered, broken-asked, broken-room}

-- a command that is accepted is answered by no refusal
newcomer_accepted : (b : Bool) (k n : ℕ) → cond b active (waiting k) ≡ refused n → ⊥
newcomer_accepted true k n e = let z : ◌≡◌ {A = ℕ} 0 1 = cc in omega arith
newcomer_accepted false k n e = let z : ◌≡◌ {A = ℕ} 0 1 = cc in omega arith

accepts : (net : Core) (c : Command) (n : ℕ) → (done net c).answer ≡ refused n → ⊥
unfolding opening serving withdrawing
accepts net (start ticket node) n e = newcomer_accepted (admissible net.plan net.calls node) (in_the_way net.plan net.calls node) n e
accepts net (call parent ticket node) n e = newcomer_accepted (admissible net.plan net.calls node) (in_the_way net.plan net.calls node) n e
accepts net (return ticket) n e = let z : ◌≡◌ {A = ℕ} 0 1 = cc in omega arith
accepts net (take_back ticket) n e = let z : ◌≡◌ {A = ℕ} 0 1 = cc in omega arith

renewed : (net : Net) (core : Core) (a : Answer) → ((n : ℕ) → a ≡ refused n → ⊥) → net_after net core a ≡ value_of net.plan core.calls
renewed net core (refused n) no-refusal = absurd (no-refusal n refl)
renewed net core active no-refusal = refl
renewed net core (waiting k) no-refusal = refl
renewed net core (ended t) no-refusal = refl

-- A command

its_plan : (net : Net) → (core_of net).plan ≡ records_of net.plan
unfolding core_of
its_plan net = refl

module _ (net : Net) (sound : broken net ≡ 0) (c : Command) where
  pub is_outcome : command_answered net c ≡ outcome_value net (step (core_of net) c)
  unfolding command_answered
  is_outcome = rw (eq-eqb (broken net) 0 sound)

  -- the core behind the step, by its plan and its calls
  behind : (step (core_of net) c).core ≡ record { plan = records_of net.plan; calls = (step (core_of net) c).core.calls }
  behind =
      ap (λ (rs : List Record). record { plan = rs; calls = (step (core_of net) c).core.calls }) (step_plan (core_of net) c ∙ its_plan net)

  keeps_on : Keeps (record { plan = records_of net.plan; calls = (step (core_of net) c).core.calls })
  keeps_on = subst Keeps behind (step_keeps (core_of net) (sound_keeps net sound) c)

  abbrev Told : Net → Type 0
  Told after = (core_of after ≡ (step (core_of net) c).core) × (broken after ≡ 0)

  pub net_told : (core_of (command_answered net c).net ≡ (step (core_of net) c).core) × (broken (command_answered net c).net ≡ 0)
  net_told = ⊎_elim taken left (true_or_false (eqb (fault (core_of net) c) 0))
    where
      taken : eqb (fault (core_of net) c) 0 ≡ true → Told (command_answered net c).net
      taken e =
          let none = eqb-true (fault (core_of net) c) 0 e in
          let is = accepted_step (core_of net) c none in
          let new =
          renewed net (step (core_of net) c).core (step (core_of net) c).answer (λ n q. accepts (core_of net) c n (sym (ap (λ o. o.answer) is) ∙ q))
          in
          subst Told (sym (ap (λ r. r.net) is_outcome ∙ new)) (
            core_back net.plan (step (core_of net) c).core.calls keeps_on.few_open ∙ sym behind,
            value_sound net.plan (step (core_of net) c).core.calls (sound_parts net sound).0 keeps_on,
          )

      left : eqb (fault (core_of net) c) 0 ≡ false → Told (command_answered net c).net
      left e =
          let is = refused_step (core_of net) c (eqb-false (fault (core_of net) c) 0 e) in
          let old : (command_answered net c).net ≡ net =
          ap (λ r. r.net) is_outcome ∙ ap (net_after net (step (core_of net) c).core) (ap (λ o. o.answer) is)
          in
          subst Told (sym old) (sym (ap (λ o. o.core) is), sound)

-- Any commands

folds : (net : Net) → broken net ≡ 0 → (commands : List Command)
    → (core_of (net_behind net commands) ≡ run (core_of net) commands) × (broken (net_behind net commands) ≡ 0)
folds net sound [] = (refl, sound)
folds net sound (c ∷ cs) =
    let one = net_told net sound c in
    let rest = folds (command_answered net c).net one.1 cs in
    (rest.0 ∙ ap (λ (n : Core). run n cs) one.0, rest.1)

-- Making

made_0 : (p : Plan) → ((make_answered p).answer ≡ Ok tt) ↔ (plan_fault p ≡ 0)
unfolding make_answered
made_0 p = go (eqb (plan_fault p) 0) refl
  where
    go : (b : Bool) → eqb (plan_fault p) 0 ≡ b → (◌≡◌ {A = Result Unit Refusal} (cond b (Ok tt) (Err (refusal_numbered plan_refusal))) (Ok tt)) ↔ (plan_fault p ≡ 0)
    go true e = ((λ _. eqb-true (plan_fault p) 0 e), λ _. refl)
    go false e = ((λ q. cc), λ q. absurd (eqb-false (plan_fault p) 0 e q))

module _ (p : Plan) (none : (make_answered p).answer ≡ Ok tt) where
  accepted_plan : (p.edges ≤ most_edges) × PlanOk (records_of p)
  accepted_plan = (plan_fault_none p).0 ((made_0 p).0 none)

  kept_plan : checked_plan (plan_fault p) p ≡ value (records_of p)
  kept_plan = ap (λ (n : ℕ). checked_plan n p) ((made_0 p).0 none)

  same_records : records_of (value (records_of p)) ≡ records_of p
  same_records = records_value (records_of p) (passes_ok six (records_of p) accepted_plan.1.records)

  made_net : (make_answered p).net ≡ value_of (value (records_of p)) []
  unfolding make_answered
  made_net = ap (λ (q : Plan). value_of q []) kept_plan

  pub made_told : (core_of (make_answered p).net ≡ empty_net (records_of p)) × (broken (make_answered p).net ≡ 0)
  made_told =
      subst (λ (n : Net). (core_of n ≡ empty_net (records_of p)) × (broken n ≡ 0)) (sym made_net) (
        core_back (value (records_of p)) [] (omega arith) ∙ ap empty_net same_records,
        value_sound (value (records_of p)) [] (omega (arith, edges-value (records_of p), (passes_ok six (records_of p) accepted_plan.1.records).edge_count))
            (subst (λ (rs : List Record). Keeps (empty_net rs)) (sym same_records) (empty_keeps (records_of p) accepted_plan.1.records)),
      )

-- The page

refused_back : (net : Net) (core : Core) (a : Answer) (why : Refusal) → answer_value a ≡ Err why → net_after net core a ≡ net
refused_back net core (refused m) why e = refl
refused_back net core active why e = cc
refused_back net core (waiting k) why e = cc
refused_back net core (ended t) why e = cc

same_net : (net : Net) (c : Command) (why : Refusal) → (command_answered net c).answer ≡ Err why → (command_answered net c).net ≡ net
unfolding command_answered
same_net net c why e = go (eqb (broken net) 0) refl e
  where
    go : (b : Bool) → eqb (broken net) 0 ≡ b
        → (cond b (outcome_value net (step (core_of net) c)) (record { answer = Err (refusal_numbered net_refusal); net = net })).answer ≡ Err why
        → (cond b (outcome_value net (step (core_of net) c)) (record { answer = Err (refusal_numbered net_refusal); net = net })).net ≡ net
    go true q f = refused_back net (step (core_of net) c).core (step (core_of net) c).answer why f
    go false q f = refl

-- a net that breaks no rule answers a question and a room by the model
module _ (net : Net) (sound : broken net ≡ 0) where
  asked_value : (ticket : ℕ) → ask_answered net ticket ≡ Ok (standing_value (ask (core_of net) ticket))
  unfolding ask_answered
  asked_value ticket = rw sound refl

  room_back : (s k : ℕ) → room_answered net s k ≡ room_value (room_at (core_of net) s k)
  unfolding room_answered
  room_back s k = rw sound refl

pub value_demands : ValueDemands
value_demands =
    record {
      refused_same = same_net;
      answered = λ net sound c. (ap (λ r. r.answer) (is_outcome net sound c), (net_told net sound c).0);
      answered_told = λ net sound. (
        (λ c. ap (λ r. told_command r.answer) (is_outcome net sound c) ∙ command_told (core_of net) c),
        (λ ticket. ap told_ask (asked_value net sound ticket) ∙ ask_told (ask (core_of net) ticket)),
        λ s k. ap told_room (room_back net sound s k) ∙ room_told (core_of net) s k,
      );
      folded = folds;
      sound_when = λ net. (sound_rules net, λ k. rules_sound net k.0 k.1);
      broken_19 = λ net bad. (
        (λ c. sym (broken_answered net bad c)),
        (λ ticket. sym (broken-asked net bad ticket)),
        λ s k. sym (broken-room net bad s k),
      );
      number_18 = refl;
      number_19 = refl;
      made_when = λ p. ((λ e. accepted_plan p e), λ ok. (made_0 p).1 ((plan_fault_none p).1 ok));
      made_empty = made_told;
      always_safe = λ p none commands.
          let made = made_told p none in
          subst Safe
          (sym ((folds (make_answered p).net made.1 commands).0 ∙ ap (λ (n : Core). run n commands) made.0))
          (demand_3.always_safe (records_of p) (accepted_plan p none).1 commands);
    }
