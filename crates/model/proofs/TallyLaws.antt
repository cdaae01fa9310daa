-- At each site admissions less returns are the active calls, along any run: by what each command does to the active calls. And a net that keeps the
-- rules under an accepted plan can always be emptied by returns: a free call is there as long as any is open. Assumes nothing.
use Prim.Native.Nat.{ℕ, zero, suc, ◌+◌}
use native.Mathlib.Omega.{arith}
use mathlib.Core.Path.{◌≡◌, refl, sym, ap, subst, ◌∙◌}
use mathlib.Core.Logic.{⊎_elim}
use mathlib.Core.Bool.{Bool, true, false, not, ◌&&◌, cond}
use mathlib.Core.List.{List, [], ◌∷◌, Memᴰ}
use mathlib.Core.Option.{Option, none, some}
use lib.ListN.{length}
use lib.Dec.{eqb}
use borrow.Author.Tests.{eqb-true, eqb-false, ne_eqb}
use Rattle.ids.specs.Limits.{no_ticket}
use Rattle.lists.specs.Count.{one}
use Rattle.lists.specs.Pick.{count, without}
use Rattle.lists.proofs.CountLaws.{true_or_false}
use Rattle.lists.proofs.PickLaws.{count_more, count-without, count-changed, changed_none, in_without, length_without, length-changed}
use Rattle.model.specs.Plan.{Record, six, passes}
use Rattle.model.specs.Reading.{PlanOk}
use Rattle.model.specs.Net.{Call, Core, empty_net, site_of, has, lookup, node_of, ticket_of, is_on, active_on, admissible, in_the_way, newcomer, opened}
use Rattle.model.specs.Net.{closed, may_wake, to_wake, activated, woken}
use Rattle.model.specs.Command.{Command, start, call, return, take_back, Answer, refused, active, waiting, fault, Outcome, opening, serving}
use Rattle.model.specs.Command.{withdrawing, done, step, run}
use Rattle.model.specs.NetRules.{Keeps}
use Rattle.model.specs.Steady.{Ending, Withdrawn}
use Rattle.model.specs.Tally.{active_calls, admits, returns, command_site, tally, AllAccepted, all_returns}
use Rattle.model.proofs.FirmLaws.{keeps_firm, ending_leaves, closed_firm, to_wake_fits}
use Rattle.model.proofs.StepLaws.{accepted_step, refused_step, return_fits, back_fits, step_keeps, empty_keeps, step_plan}
use Rattle.model.proofs.FreeLaws.{Free, somebody_free, free_returns, ticket_not_0}

-- Admissions less returns

never : (b : Bool) → one (b && false) ≡ 0
never true = refl
never false = refl

-- what one outcome does to the active calls of a site: those before and the admissions are those after and the returns
Balanced : List Record → ℕ → Bool → List Call → Command → Outcome → Type 0
Balanced rs s here cs c o =
    count (active_on rs s) cs + one (here && admits c o.answer) ≡ count (active_on rs s) o.core.calls + one (here && returns c o.answer)

opening_balanced : (rs : List Record) (cs : List Call) (s parent ticket node : ℕ) (c : Command) → ((a : Answer) → returns c a ≡ false)
    → Balanced rs s (eqb (site_of rs node) s) cs c (opening rs cs parent ticket node)
unfolding Balanced opening opened active_on is_on newcomer
opening_balanced rs cs s parent ticket node c no_return =
    omega (arith, count_more (active_on rs s) cs (newcomer rs cs parent ticket node), go (admissible rs cs node))
  where
    here : Bool
    here = eqb (site_of rs node) s

    no_thread : (a : Answer) → one (here && returns c a) ≡ 0
    no_thread a = ap (λ (b : Bool). one (here && b)) (no_return a) ∙ never here

    waits : Answer
    waits = waiting (in_the_way rs cs node)

    go : (b : Bool) → one (here && admits c (cond b active waits)) ≡ one (here && b) + one (here && returns c (cond b active waits))
    go true = omega (arith, no_thread active)
    go false = omega (arith, never here, no_thread waits)

module _ (net : Core) (k : Keeps net) (ticket : ℕ) (gone : Call) (end : Ending net.calls ticket gone) (s : ℕ) where
  abbrev rs : List Record
  rs = net.plan

  abbrev left : List Call
  left = closed net.calls ticket

  abbrev home : ℕ
  home = site_of rs gone.node

  thread_back : count (active_on rs s) net.calls ≡ one (eqb home s) + count (active_on rs s) left
  unfolding closed active_on is_on
  thread_back = omega (arith, count-without (has ticket) (active_on rs s) net.calls gone end.stands, go (eqb home s))
    where
      go : (b : Bool) → one (b && gone.active) ≡ one b
      go b = rw end.runs (at b)
        where
          at : (b : Bool) → one (b && true) ≡ one b
          at true = refl
          at false = refl

  woken-one : (o : Option Call) → to_wake rs left home ≡ o
      → count (active_on rs s) (woken rs left home) ≡ count (active_on rs s) left + one (eqb home s && not (eqb (ticket_of o) no_ticket))
  unfolding to_wake woken active_on is_on closed
  woken-one none e = omega (arith, ap (count (active_on rs s)) (changed_none activated (may_wake rs left home) left e), never (eqb home s))
  woken-one (some d) e =
      let f = closed_firm rs net.calls (keeps_firm net k) ticket gone (ending_leaves end) in
      let w = to_wake_fits rs left f home d e in
      let some_ticket = ne_eqb d.ticket no_ticket (ticket_not_0 net k d (in_without (has ticket) net.calls d w.0)) in
      omega (
        arith,
        count-changed activated (may_wake rs left home) (active_on rs s) left d e,
        ap (λ (a : Bool). one (eqb (site_of rs d.node) s && a)) w.2,
        never (eqb (site_of rs d.node) s),
        ap (λ (r : ℕ). one (eqb r s && true)) w.1,
        ap (λ (b : Bool). one (eqb home s && not b)) some_ticket,
      )

  return_balanced : Balanced rs s (eqb home s) net.calls (return ticket) (serving rs left home)
  unfolding Balanced serving
  return_balanced = omega (arith, thread_back, woken-one (to_wake rs left home) refl, at (eqb home s))
    where
      at : (b : Bool) → one (b && true) ≡ one b
      at true = refl
      at false = refl

-- who waits has no thread to give back
withdrawn_balanced : (rs : List Record) (cs : List Call) (ticket : ℕ) (gone : Call) → Withdrawn cs ticket gone → (s : ℕ) (here : Bool)
    → Balanced rs s here cs (take_back ticket) (withdrawing rs cs ticket)
unfolding Balanced withdrawing closed active_on
withdrawn_balanced rs cs ticket gone end s here =
    omega (
      arith,
      count-without (has ticket) (active_on rs s) cs gone end.stands,
      ap (λ (b : Bool). one (is_on rs s gone && b)) end.waits,
      never (is_on rs s gone),
    )

refused_balanced : (net : Core) (s : ℕ) (here : Bool) (c : Command) (n : ℕ)
    → Balanced net.plan s here net.calls c (record { core = net; answer = refused n })
unfolding Balanced
refused_balanced net s here c n = ap (λ (m : ℕ). count (active_on net.plan s) net.calls + m) (never here ∙ sym (none_back c))
  where
    none_back : (d : Command) → one (here && returns d (refused n)) ≡ 0
    none_back (start ticket node) = never here
    none_back (call parent ticket node) = never here
    none_back (return ticket) = never here
    none_back (take_back ticket) = never here

step_balanced : (net : Core) → Keeps net → (c : Command) (s : ℕ) → Balanced net.plan s (eqb (command_site net c) s) net.calls c (step net c)
step_balanced net k c s =
    ⊎_elim
    (λ e. let fine = eqb-true (fault net c) 0 e in rw (accepted_step net c fine) (accepted c fine))
    (λ e. rw (refused_step net c (eqb-false (fault net c) 0 e)) (refused_balanced net s (eqb (command_site net c) s) c (fault net c)))
    (true_or_false (eqb (fault net c) 0))
  where
    accepted : (d : Command) → fault net d ≡ 0 → Balanced net.plan s (eqb (command_site net d) s) net.calls d (done net d)
    accepted (start ticket node) e = opening_balanced net.plan net.calls s no_ticket ticket node (start ticket node) (λ a. refl)
    accepted (call parent ticket node) e = opening_balanced net.plan net.calls s parent ticket node (call parent ticket node) (λ a. refl)
    accepted (return ticket) e =
        let w = return_fits net ticket e in
        rw w.1.stands (return_balanced net k ticket w.0 w.1 s)
    accepted (take_back ticket) e =
        let w = back_fits net ticket e in
        withdrawn_balanced net.plan net.calls ticket w.0 w.1 s (eqb (command_site net (take_back ticket)) s)

-- along a run
pub balance : (net : Core) → Keeps net → (s : ℕ) (commands : List Command)
    → active_calls net s + tally admits s net commands ≡ active_calls (run net commands) s + tally returns s net commands
unfolding Balanced
balance net k s [] = refl
balance net k s (c ∷ rest) =
    let here = step_balanced net k c s in
    let later = balance (step net c).core (step_keeps net k c) s rest in
    let same = ap (λ (p : List Record). count (active_on p s) (step net c).core.calls) (step_plan net c) in
    omega arith

-- "At each site, admissions so far less returns so far equal its active calls"
pub admissions_less-returns : (rs : List Record) → passes six rs ≡ true → (s : ℕ) (commands : List Command)
    → tally admits s (empty_net rs) commands ≡ active_calls (run (empty_net rs) commands) s + tally returns s (empty_net rs) commands
unfolding count
admissions_less-returns rs pass s commands = omega (arith, balance (empty_net rs) (empty_keeps rs pass) s commands)

-- It always drains

returned_length : (net : Core) (ticket : ℕ) → fault net (return ticket) ≡ 0 → length net.calls ≡ suc (length (step net (return ticket)).core.calls)
unfolding serving woken closed
returned_length net ticket e =
    let w = return_fits net ticket e in
    let after = ap (λ (o : Outcome). length o.core.calls) (accepted_step net (return ticket) e) in
    let home = site_of net.plan (node_of (lookup net.calls ticket)) in
    let left = without (has ticket) net.calls in
    omega (
      arith,
      length_without (has ticket) net.calls w.0 w.1.stands,
      after,
      length-changed activated (may_wake net.plan left home) left,
    )

pub drains : (n : ℕ) (net : Core) → Keeps net → PlanOk net.plan → length net.calls ≡ n
    → (tickets : List ℕ) × (length tickets ≡ n) × AllAccepted net tickets × ((run net (all_returns tickets)).calls ≡ [])
drains zero net k ok e = ([], refl, tt, none_left net.calls e)
  where
    none_left : (cs : List Call) → length cs ≡ 0 → cs ≡ []
    none_left [] q = refl
    none_left (c ∷ cs) q = absurd (omega arith)
drains (suc n) net k ok e =
    let free = free_one net.calls refl in
    let ticket = free.who.ticket in
    let fine = free_returns net k free in
    let after = (step net (return ticket)).core in
    let rest =
    drains n after (step_keeps net k (return ticket)) (subst PlanOk (sym (step_plan net (return ticket))) ok)
    (omega (arith, returned_length net ticket fine))
    in
    (ticket ∷ rest.0, ap suc rest.1, (fine, rest.2), rest.3)
  where
    free_one : (cs : List Call) → net.calls ≡ cs → Free net.calls
    free_one [] q = absurd (omega (arith, ap length q))
    free_one (c ∷ cs) q = somebody_free net k ok c (subst (λ (l : List Call). Memᴰ c l) (sym q) (Memᴰ.head refl))
