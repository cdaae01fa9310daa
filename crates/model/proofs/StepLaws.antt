-- Every command keeps the net rules, a refused one because it changes nothing; so any run of commands does, and the empty net of a plan whose
-- records pass keeps them from the start. Assumes nothing.
use Prim.Native.Nat.{ℕ}
use native.Mathlib.Omega.{arith}
use mathlib.Core.Path.{◌≡◌, refl, ap, subst, ◌∙◌}
use mathlib.Core.Logic.{⊎_elim}
use mathlib.Core.Bool.{Bool, true, false, not, ◌||◌}
use mathlib.Core.List.Memᴰ
use mathlib.Core.List.{List, [], ◌∷◌}
use mathlib.Core.Option.{Option, none, some}
use lib.ListN.{length}
use lib.Dec.{eqb}
use borrow.Author.Tests.{eqb-true, eqb-false, ltb-true, not-true, eq-eqb}
use Rattle.ids.specs.Limits.{no_ticket, most_open}
use Rattle.lists.specs.Pick.{count}
use Rattle.lists.proofs.CountLaws.{true_or_false, never_both, and_both}
use Rattle.model.specs.Plan.{Record, threads, has_edge, six, passes}
use Rattle.model.specs.Net.{Call, Core, empty_net, site_of, lookup, is_open, is_active, node_of, has_child, counts, opened, closed, woken}
use Rattle.model.specs.Command.{Command, start, call, return, take_back, refused, start_tests, call_tests, return_tests, back_tests, fault, Outcome}
use Rattle.model.specs.Command.{opening, serving, withdrawing, done, decided, step, run}
use Rattle.model.specs.NetRules.{Keeps, parent_stands}
use Rattle.model.specs.Steady.{Firm, Newcomer, Ending, Withdrawn}
use Rattle.model.proofs.SiteLaws.{lawful-all}
use Rattle.model.proofs.TestLaws.{first_fault-is}
use Rattle.model.proofs.CountsLaws.{A-counts}
use Rattle.model.proofs.FirmLaws.{keeps_firm, opened_firm, ending_leaves, withdrawn_leaves, closed_firm, woken_firm}
use Rattle.model.proofs.SettledLaws.{Settled, opened_settled, returned_settled, withdrawn_settled}

-- One command, accepted or refused

pub accepted_step : (net : Core) (c : Command) → fault net c ≡ 0 → step net c ≡ done net c
unfolding step
accepted_step net c e = rw (eq-eqb (fault net c) 0 e)

-- "A refusal hands back its number with the net unchanged"
pub refused_step : (net : Core) (c : Command) → (fault net c ≡ 0 → ⊥) → step net c ≡ record { core = net; answer = refused (fault net c) }
unfolding step
refused_step net c apart = go (eqb (fault net c) 0) refl
  where
    go : (b : Bool) → eqb (fault net c) 0 ≡ b → decided b net c ≡ record { core = net; answer = refused (fault net c) }
    go true e = absurd (apart (eqb-true (fault net c) 0 e))
    go false e = refl

-- What the tests leave

no_call : (o : Option Call) → not (is_open o) ≡ true → o ≡ none
no_call none e = refl
no_call (some c) e = absurd (never_both {b = false} e refl)

some_call : (o : Option Call) → is_open o ≡ true → (c : Call) × (o ≡ some c)
some_call none e = absurd (never_both {b = false} e refl)
some_call (some c) e = (c, refl)

some_number : (t : ℕ) → not (eqb t no_ticket) ≡ true → t ≡ no_ticket → ⊥
some_number t e q = eqb-false t no_ticket (not-true (eqb t no_ticket) e) q

module _ (net : Core) where
  -- the open calls of a net, and its plan
  abbrev cs : List Call
  cs = net.calls

  abbrev rs : List Record
  rs = net.plan

  pub start_fits : (ticket node : ℕ) → fault net (start ticket node) ≡ 0 → Newcomer rs cs no_ticket ticket node
  unfolding fault
  start_fits ticket node e =
      let w = (first_fault-is 0 (start_tests rs cs ticket node) refl).0 e in
      record {
        some_ticket = some_number ticket w.0;
        new_ticket = no_call (lookup cs ticket) w.1.0;
        listed_node = w.1.1.0;
        room_left = ltb-true (length cs) most_open w.1.1.1.0;
        parent_fits = refl;
      }

  pub call_fits : (parent ticket node : ℕ) → fault net (call parent ticket node) ≡ 0 → Newcomer rs cs parent ticket node
  unfolding fault
  call_fits parent ticket node e =
      let w = (first_fault-is 0 (call_tests rs cs parent ticket node) refl).0 e in
      let late = w.1.1.1 in
      record {
        some_ticket = some_number ticket w.0;
        new_ticket = no_call (lookup cs ticket) w.1.0;
        listed_node = late.1.0;
        room_left = ltb-true (length cs) most_open late.1.1.1.0;
        parent_fits = go (lookup cs parent) late.0 late.1.1.0 (eqb parent no_ticket);
      }
    where
      go : (o : Option Call) → is_active o ≡ true → has_edge rs (node_of o) node ≡ true → (b : Bool) → (b || parent_stands rs o node) ≡ true
      go none a e b = absurd (never_both {b = false} a refl)
      go (some p) a e true = refl
      go (some p) a e false = and_both p.active (has_edge rs p.node node) a e

  pub return_fits : (ticket : ℕ) → fault net (return ticket) ≡ 0 → (c : Call) × Ending cs ticket c
  unfolding fault
  return_fits ticket e =
      let w = (first_fault-is 0 (return_tests cs ticket) refl).0 e in
      let found = some_call (lookup cs ticket) w.0 in (
        found.0,
        record {
          stands = found.1;
          runs = subst (λ (o : Option Call). is_active o ≡ true) found.1 w.1.0;
          childless = not-true (has_child cs ticket) w.1.1.0;
        },
      )

  pub back_fits : (ticket : ℕ) → fault net (take_back ticket) ≡ 0 → (c : Call) × Withdrawn cs ticket c
  unfolding fault
  back_fits ticket e =
      let w = (first_fault-is 0 (back_tests cs ticket) refl).0 e in
      let found = some_call (lookup cs ticket) w.0 in (
        found.0,
        record { stands = found.1; waits = subst (λ (o : Option Call). is_active o ≡ false) found.1 (not-true (is_active (lookup cs ticket)) w.1.0) },
      )

-- The rules are kept

firm_keeps : (net : Core) → Firm net.plan net.calls → Settled net.plan net.calls → Keeps net
firm_keeps net f settled =
    record {
      plan_passes = f.pass;
      tickets_differ = f.differ;
      no_ticket_0 = f.none_0;
      nodes_known = f.known;
      parents_kept = f.kept;
      counts_kept = λ s h. refl;
      sites_lawful = f.law;
      settled = settled;
      few_open = f.few;
    }

opening_keeps : (net : Core) → Keeps net → (parent ticket node : ℕ) → Newcomer net.plan net.calls parent ticket node
    → Keeps (opening net.plan net.calls parent ticket node).core
unfolding opening
opening_keeps net k parent ticket node ok =
    let f = keeps_firm net k in
    firm_keeps (record { plan = net.plan; calls = opened net.plan net.calls parent ticket node })
    (opened_firm net.plan net.calls f parent ticket node ok)
    (opened_settled net.plan net.calls f parent ticket node ok k.settled)

returning_keeps : (net : Core) → Keeps net → (ticket : ℕ) (c : Call) → Ending net.calls ticket c → Keeps (done net (return ticket)).core
unfolding serving
returning_keeps net k ticket c end =
    let f = keeps_firm net k in
    rw end.stands
    (firm_keeps (record { plan = net.plan; calls = woken net.plan (closed net.calls ticket) (site_of net.plan c.node) })
    (woken_firm net.plan (closed net.calls ticket) (closed_firm net.plan net.calls f ticket c (ending_leaves end)) (site_of net.plan c.node))
    (returned_settled net.plan net.calls f k.settled ticket c end))

withdrawing_keeps : (net : Core) → Keeps net → (ticket : ℕ) (c : Call) → Withdrawn net.calls ticket c → Keeps (done net (take_back ticket)).core
unfolding withdrawing
withdrawing_keeps net k ticket c end =
    let f = keeps_firm net k in
    firm_keeps (record { plan = net.plan; calls = closed net.calls ticket })
    (closed_firm net.plan net.calls f ticket c (withdrawn_leaves f end))
    (withdrawn_settled net.plan net.calls f ticket c end k.settled)

accepted_keeps : (net : Core) → Keeps net → (c : Command) → fault net c ≡ 0 → Keeps (done net c).core
accepted_keeps net k (start ticket node) e = opening_keeps net k no_ticket ticket node (start_fits net ticket node e)
accepted_keeps net k (call parent ticket node) e = opening_keeps net k parent ticket node (call_fits net parent ticket node e)
accepted_keeps net k (return ticket) e = let w = return_fits net ticket e in returning_keeps net k ticket w.0 w.1
accepted_keeps net k (take_back ticket) e = let w = back_fits net ticket e in withdrawing_keeps net k ticket w.0 w.1

-- "every command keep[s] them"
pub step_keeps : (net : Core) → Keeps net → (c : Command) → Keeps (step net c).core
step_keeps net k c =
    ⊎_elim
    (λ e. rw (accepted_step net c (eqb-true (fault net c) 0 e)) (accepted_keeps net k c (eqb-true (fault net c) 0 e)))
    (λ e. rw (refused_step net c (eqb-false (fault net c) 0 e)) k)
    (true_or_false (eqb (fault net c) 0))

pub run_keeps : (net : Core) → Keeps net → (commands : List Command) → Keeps (run net commands)
run_keeps net k [] = k
run_keeps net k (c ∷ commands) = run_keeps (step net c).core (step_keeps net k c) commands

-- "An empty net .. keep[s] them"
pub empty_keeps : (rs : List Record) → passes six rs ≡ true → Keeps (empty_net rs)
unfolding count
empty_keeps rs pass =
    firm_keeps (empty_net rs)
    (record {
      pass = pass;
      differ = λ t. omega arith;
      none_0 = refl;
      known = λ c m. absurd (Memᴰ.not-nil m);
      kept = λ c m. absurd (Memᴰ.not-nil m);
      law = λ s. lawful-all (threads rs s) (counts rs [] s) (λ k h. omega (arith, A-counts rs s pass [] k));
      few = omega arith;
    })
    (λ c m. absurd (Memᴰ.not-nil m))

-- a command leaves the plan alone
pub step_plan : (net : Core) (c : Command) → (step net c).core.plan ≡ net.plan
unfolding opening serving withdrawing
step_plan net c =
    ⊎_elim
    (λ e. ap (λ (o : Outcome). o.core.plan) (accepted_step net c (eqb-true (fault net c) 0 e)) ∙ same c)
    (λ e. ap (λ (o : Outcome). o.core.plan) (refused_step net c (eqb-false (fault net c) 0 e)))
    (true_or_false (eqb (fault net c) 0))
  where
    same : (d : Command) → (done net d).core.plan ≡ net.plan
    same (start ticket node) = refl
    same (call parent ticket node) = refl
    same (return ticket) = refl
    same (take_back ticket) = refl

pub run_plan : (net : Core) (commands : List Command) → (run net commands).plan ≡ net.plan
run_plan net [] = refl
run_plan net (c ∷ commands) = run_plan (step net c).core commands ∙ step_plan net c
