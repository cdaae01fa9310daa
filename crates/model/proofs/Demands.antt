-- The customer's demands hold of the definitions, a theorem for each. The third first for every net that keeps the rules under an accepted plan, since
-- every command keeps them; the empty net is one. Assumes nothing.
use Prim.Native.Nat.{ℕ, ◌-◌, ◌≤◌, ◌<◌}
use native.Mathlib.Omega.{arith}
use mathlib.Core.Path.{◌≡◌, refl, sym, ap, subst, ◌∙◌}
use mathlib.Core.List.{List, Memᴰ}
use mathlib.Core.Bool.{false}
use mathlib.Core.Option.{Option, some}
use lib.ListN.{length}
use Rattle.lists.specs.Pick.{count}
use Rattle.model.specs.Plan.{threads}
use Rattle.model.specs.Reading.{PlanOk}
use Rattle.model.specs.PlanValue.{reading_plan}
use Rattle.model.specs.Net.{Call, Core, empty_net, site_of, lookup, node_of, ticket_of, at_or_above, counts, admissible, in_the_way, opened, closed, to_wake}
use Rattle.model.specs.Command.{Command, start, call, return, take_back, ended, fault, Outcome, opening, serving, withdrawing, done, step, run}
use Rattle.model.specs.NetRules.{Keeps}
use Rattle.model.specs.Demands.{Demand1, OpensCall, by_start, by_call, Demand2, Safe, Demand3, Drains}
use Rattle.model.proofs.SiteLaws.{lawful_at}
use Rattle.model.proofs.PlanLaws.{accepted_exactly}
use Rattle.model.proofs.CountsLaws.{A-counts}
use Rattle.model.proofs.SettledLaws.{waits_held}
use Rattle.model.proofs.OrderLaws.{to_wake_oldest}
use Rattle.model.proofs.StepLaws.{accepted_step, refused_step, run_keeps, empty_keeps, run_plan}
use Rattle.model.proofs.GivenLaws.{from_table}
use Rattle.model.proofs.RefusalRows.{refused_exactly, accepted_exactly_when}
use Rattle.model.proofs.FreeLaws.{somebody_free, free_returns}
use Rattle.model.proofs.TallyLaws.{drains}

-- Demand 1

pub demand_1 : Demand1
demand_1 =
    record {
      refused_plan = λ bytes number offset e. ap reading_plan e;
      refused_command = λ net command apart.
          let e = refused_step net command apart in
          (ap (λ (o : Outcome). o.core) e, ap (λ (o : Outcome). o.answer) e, from_table net command apart);
    }

-- Demand 2

opens_done : (net : Core) (command : Command) (parent ticket node : ℕ) → OpensCall command parent ticket node
    → done net command ≡ opening net.plan net.calls parent ticket node
opens_done net (start t n) parent ticket node by_start = refl
opens_done net (call p t n) parent ticket node by_call = refl
opens_done net (return _) parent ticket node opens = elim opens [ ]
opens_done net (take_back _) parent ticket node opens = elim opens [ ]

opens_step : (net : Core) (command : Command) (parent ticket node : ℕ) → OpensCall command parent ticket node → fault net command ≡ 0
    → step net command ≡ opening net.plan net.calls parent ticket node
opens_step net command parent ticket node o e = accepted_step net command e ∙ opens_done net command parent ticket node o

return_step : (net : Core) (ticket : ℕ) (gone : Call) → lookup net.calls ticket ≡ some gone → fault net (return ticket) ≡ 0
    → step net (return ticket) ≡ serving net.plan (closed net.calls ticket) (site_of net.plan gone.node)
return_step net ticket gone found e =
    accepted_step net (return ticket) e
    ∙ ap (λ (o : Option Call). serving net.plan (closed net.calls ticket) (site_of net.plan (node_of o))) found

pub demand_2 : Demand2
unfolding opening opened serving withdrawing admissible in_the_way
demand_2 =
    record {
      plans = accepted_exactly;
      accepted_when = accepted_exactly_when;
      refused_when = refused_exactly;
      opening_answer = λ net command parent ticket node o e. ap (λ (r : Outcome). r.answer) (opens_step net command parent ticket node o e);
      opening_state = λ net command parent ticket node o e. ap (λ (r : Outcome). r.core) (opens_step net command parent ticket node o e);
      return_answer = λ net ticket gone found e.
          ap (λ (r : Outcome). r.answer) (return_step net ticket gone found e)
          ∙ ap (λ (w : Option Call). ended (ticket_of w)) (to_wake_oldest net.plan (closed net.calls ticket) (site_of net.plan gone.node));
      return_state = λ net ticket gone found e. ap (λ (r : Outcome). r.core) (return_step net ticket gone found e);
      back_answer = λ net ticket e. ap (λ (r : Outcome). r.answer) (accepted_step net (take_back ticket) e);
      back_state = λ net ticket e. ap (λ (r : Outcome). r.core) (accepted_step net (take_back ticket) e);
    }

-- Demand 3

module _ (net : Core) (k : Keeps net) where
  -- the first two parts hold under any plan, accepted or not
  pub keeps_few : (s j : ℕ) → j < threads net.plan s → count (at_or_above net.plan s j) net.calls ≤ threads net.plan s - j
  keeps_few s j h =
      omega (
        arith,
        lawful_at (threads net.plan s) (counts net.plan net.calls s) (k.sites_lawful s) j h,
        A-counts net.plan s k.plan_passes net.calls j,
      )

  pub keeps_settled : (c : Call) → Memᴰ c net.calls → c.active ≡ false → admissible net.plan net.calls c.node ≡ false
  keeps_settled c m w = waits_held net.plan net.calls c (k.settled c m) w

  free_ended : (d : Call) → fault net (return d.ticket) ≡ 0 → (t : ℕ) × ((step net (return d.ticket)).answer ≡ ended t)
  unfolding serving
  free_ended d e = (
    ticket_of (to_wake net.plan (closed net.calls d.ticket) (site_of net.plan (node_of (lookup net.calls d.ticket)))),
    ap (λ (r : Outcome). r.answer) (accepted_step net (return d.ticket) e),
  )

  -- every net that keeps the rules under an accepted plan is safe
  pub keeps_safe : PlanOk net.plan → Safe net
  keeps_safe ok =
      record {
        never_too_many = keeps_few;
        nobody_could_go = keeps_settled;
        somebody_free = λ c m.
            let free = somebody_free net k ok c m in
            (free.who, free.among, free.runs, free.childless, free_ended free.who (free_returns net k free));
      }

pub safe_after : (net : Core) → Keeps net → PlanOk net.plan → (commands : List Command) → Safe (run net commands)
safe_after net k ok commands =
    keeps_safe (run net commands) (run_keeps net k commands) (subst PlanOk (sym (run_plan net commands)) ok)

pub demand_3 : Demand3
demand_3 = record { always_safe = λ rs ok commands. safe_after (empty_net rs) (empty_keeps rs ok.records) ok commands }

pub it_drains : Drains
it_drains =
    record {
      always = λ rs ok commands.
          let net = run (empty_net rs) commands in
          drains (length net.calls) net (run_keeps (empty_net rs) (empty_keeps rs ok.records) commands)
          (subst PlanOk (sym (run_plan (empty_net rs) commands)) ok) refl;
    }
