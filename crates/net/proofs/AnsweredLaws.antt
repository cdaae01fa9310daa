-- What the functions hand back is what the definitions say: 19 where the tests find a broken rule, and else the outcome of the model's step, its question or
-- its room, of the net that the value tells. Assumes nothing.
use Prim.Native.Nat.{ℕ, ◌≤◌, ◌<◌}
use native.Mathlib.Omega.{arith}
use mathlib.Core.Path.{◌≡◌, refl, sym, ap, subst, ◌∙◌}
use mathlib.Core.Bool.{Bool, true, false, cond}
use mathlib.Core.List.{List}
use mathlib.Core.Option.{Option as Maybe, none, some}
use Rattle.std.specs.Prelude.{Option, Some, None, Result, Ok, Err}
use Rattle.std.specs.Result.{IsErrAnd}
use lib.ListN.{length, get_or}
use lib.Dec.{eqb, ltb}
use borrow.Author.Tests.{eq-eqb, ne_eqb}
use Rattle.ids.specs.Limits.{most_open, most_edges}
use Rattle.model.specs.Plan.{Record}
use Rattle.model.specs.PlanValue.{records_of}
use Rattle.model.specs.Net.{Call, lookup}
use Rattle.model.specs.NetRules.{broken_rule}
use Rattle.model.specs.Command.{Command, step, Standing, standing, ask, Roomed, has_room, room_refused, room_at}
use Rattle.model.specs.declared.Refusal.{Refusal}
use Rattle.model.specs.Refusal.{refusal_told, refusal_numbered}
use Rattle.model.proofs.RefusalLaws.{told_named, net_named}
use Rattle.model.proofs.NetRuleLaws.{rules_exactly}
use Rattle.model.proofs.StepLaws.{step_plan}
use Rattle.moves.specs.Held.{Arrays, Held, arrays_of}
use Rattle.moves.specs.declared.Running.{Running as Run}
use Rattle.steps.specs.Running.{Stepped, Running, RoomSeen}
use Rattle.text.specs.declared.Printed.{Printed}
use Rattle.text.specs.Lines.{a_refusal, shown_told, of_room}
use Rattle.value.specs.View.{call_of, spare, core_of, row_of, broken}
use Rattle.value.specs.Handed.{outcome_value, command_answered, standing_value, ask_answered, room_value, room_answered}
use Rattle.value.specs.declared.Net.{Net}
use Rattle.value.specs.declared.Commanded.{Commanded}
use Rattle.value.specs.declared.Standing.{Standing as StandingValue}
use Rattle.lookup.specs.Lookup.{place_in, placed}
use Rattle.lookup.proofs.FoundLaws.{StandsAt, nowhere, there, stands_at}
use Rattle.apart.proofs.ApartLaws.{first-length}
use Rattle.pack.specs.Packed.{Handing}

module _ (net : Net) where
  its_plan : (core_of net).plan ≡ records_of net.plan
  unfolding core_of
  its_plan = refl

  -- A broken rule

  module _ (bad : broken net ≡ 0 → ⊥) where
    not_sound : eqb (broken net) 0 ≡ false
    not_sound = ne_eqb (broken net) 0 bad

    abbrev left_alone : Refusal → Commanded
    left_alone why = record { answer = Err why; net = net }

    pub broken_answered : (c : Command) → ◌≡◌ {A = Commanded} (record { answer = Err Refusal.BrokenNet; net = net }) (command_answered net c)
    unfolding command_answered
    broken_answered c = ap left_alone (sym net_named) ∙ sym (rw not_sound)

    pub broken-asked : (t : ℕ) → Err Refusal.BrokenNet ≡ ask_answered net t
    unfolding ask_answered
    broken-asked t = ap Err (sym net_named) ∙ sym (rw not_sound)

    pub broken-room : (s k : ℕ) → Err Refusal.BrokenNet ≡ room_answered net s k
    unfolding room_answered
    broken-room s k = ap Err (sym net_named) ∙ sym (rw not_sound)

  -- None is broken

  module _ (none_there : 0 ≡ broken net) where
    none_broken : broken net ≡ 0
    none_broken = sym none_there

    sound : eqb (broken net) 0 ≡ true
    sound = eq-eqb (broken net) 0 none_broken

    -- Commands

    module _ (c : Command) where
      pub step-answered : (got : Commanded) → got ≡ outcome_value net (step (core_of net) c) → got ≡ command_answered net c
      unfolding command_answered
      step-answered got e = e ∙ sym (rw sound)

      pub handing : {run : Run} {what : Result Printed Refusal} {most-of places levels edges : List ℕ}
          → Stepped (step (core_of net) c) (arrays_of run) run.table.used (shown_told what) most-of places levels edges
          → Handing net (step (core_of net) c) what run.table
      handing {run} stepped =
          let h : Held (records_of net.plan) (step (core_of net) c).core.calls (arrays_of run) run.table.used =
          subst (λ (rs : List Record). Held rs (step (core_of net) c).core.calls (arrays_of run) run.table.used)
          (step_plan (core_of net) c ∙ its_plan) stepped.runs_on.held
          in
          record {
            says = stepped.says;
            packing =
                record {
                  joining =
                      record {
                        of_tickets = h.of_tickets;
                        of_parents = h.of_parents;
                        of_keys = h.of_keys;
                        of_nodes = h.of_nodes;
                        count = h.count;
                        few = h.firm.few;
                      };
                  firm = h.firm;
                };
          }

    -- Questions

    rule_0 : (b : Bool) → ltb most_edges net.plan.edges ≡ b → cond b 1 (broken_rule (core_of net) (row_of net.counts)) ≡ 0
        → broken_rule (core_of net) (row_of net.counts) ≡ 0
    rule_0 true e q = absurd (omega arith)
    rule_0 false e q = q

    pub few : net.used ≤ most_open
    unfolding broken core_of
    few =
        let rules = (rules_exactly (core_of net) (row_of net.counts)).0 (rule_0 (ltb most_edges net.plan.edges) refl none_broken) in
        omega (arith, rules.few_open, first-length net.calls net.used)

    module _ (t : ℕ) (whole : length net.calls ≡ most_open) (answer : Option ℕ) (is : answer ≡ placed net.used (place_in net.calls net.used t)) where
      stands : StandsAt net t answer
      stands = subst (StandsAt net t) (sym is) (stands_at net t whole few)

      its-standing : (o : Maybe Call) → lookup (core_of net).calls t ≡ o → ask_answered net t ≡ Ok (standing_value (standing o))
      unfolding ask_answered ask
      its-standing o e = rw sound (ap (λ (p : Maybe Call). Ok (standing_value (standing p))) e)

      pub asked_nobody : answer ≡ None → Ok StandingValue.NotOpen ≡ ask_answered net t
      asked_nobody none_found = go stands
        where
          go : StandsAt net t answer → Ok StandingValue.NotOpen ≡ ask_answered net t
          go (nowhere e q) = sym (its-standing none e)
          go (there c at e q inside here) = cc

      module _ (at : ℕ) (found : answer ≡ Some at) where
        pub inside_there : at < most_open
        inside_there = go stands
          where
            go : StandsAt net t answer → at < most_open
            go (nowhere e q) = cc
            go (there c i e q inside here) = let same : i ≡ at = cc in omega (arith, few)

        asked-there : ask_answered net t ≡ Ok (standing_value (cond (get_or net.calls at spare).active Standing.is-running Standing.is-waiting))
        asked-there = go stands
          where
            go : StandsAt net t answer
                → ask_answered net t ≡ Ok (standing_value (cond (get_or net.calls at spare).active Standing.is-running Standing.is-waiting))
            go (nowhere e q) = cc
            go (there c i e q inside here) =
                let same : i ≡ at = cc in
                its-standing (some c) e
                ∙ ap (λ (d : Call). Ok (standing_value (cond d.active Standing.is-running Standing.is-waiting)))
                (sym here ∙ ap (λ (j : ℕ). call_of (get_or net.calls j spare)) same)

        pub asked-active : (get_or net.calls at spare).active ≡ true → Ok StandingValue.Active ≡ ask_answered net t
        asked-active e = sym (asked-there ∙ ap (λ (b : Bool). Ok (standing_value (cond b Standing.is-running Standing.is-waiting))) e)

        pub asked_waiting : (get_or net.calls at spare).active ≡ false → Ok StandingValue.Waiting ≡ ask_answered net t
        asked_waiting e = sym (asked-there ∙ ap (λ (b : Bool). Ok (standing_value (cond b Standing.is-running Standing.is-waiting))) e)

    -- Rooms

    pub room_there : (s k : ℕ) (got : Result ℕ Refusal) → got ≡ room_value (room_at (core_of net) s k) → got ≡ room_answered net s k
    unfolding room_answered
    room_there s k got e = e ∙ sym (rw sound)

pub room_seen : (net : Net) {a : Arrays} {used : ℕ} {most-of places levels edges : List ℕ} → Running (core_of net) a used most-of places levels edges
    → RoomSeen (core_of net) a.rooms most-of
room_seen net run = record { pass = run.keeps.plan_passes; law = run.keeps.sites_lawful; of_rooms = run.held.of_rooms; staffed = run.planned.staffed }

-- a refusal that is handed on is that refusal
pub refused_is : {A : Type 0} (r : Result A Refusal) (why : Refusal) → IsErrAnd r (λ e. e ≡ why) → r ≡ Err why
refused_is (Ok x) why h = absurd h
refused_is (Err e) why h = ap Err h

-- a room that is not there
pub refused_room : (why : Refusal) (a : Roomed) → a_refusal (refusal_told why) ≡ of_room a → Err why ≡ room_value a
refused_room why (has_room n) e = cc
refused_room why (room_refused n) e =
    let same : refusal_told why ≡ n = cc in
    ap Err (sym (told_named why).0 ∙ ap refusal_numbered same)
