-- Nets that differ in the places of their calls alone answer every command alike and stay so: a call is found by its ticket wherever it stands, counts and
-- waiting orders are the same, and so is whom a return wakes. Assumes nothing.
use Prim.Native.Nat.{ℕ}
use native.Mathlib.Omega.{arith}
use mathlib.Core.Path.{◌≡◌, refl, sym, ap, ap₂, subst, ◌∙◌}
use mathlib.Core.Logic.{⊎_elim}
use mathlib.Core.Bool.{Bool, true, false, not, ◌&&◌, cond}
use mathlib.Core.List.{List, [], ◌∷◌, Memᴰ}
use mathlib.Core.Option.{Option, none, some}
use lib.ListN.{length}
use lib.Dec.{eqb, ltb}
use borrow.Author.Tests.{eqb-true, eq-eqb, eqb-false}
use Rattle.ids.specs.Limits.{no_ticket}
use Rattle.lists.specs.Count.{one}
use Rattle.lists.specs.Pick.{count, found, without, changed}
use Rattle.lists.proofs.CountLaws.{true_or_false, never_both, and_left, and_right, and_both}
use Rattle.lists.proofs.PickLaws.{count-all, count_none, count-some, some_counted, count_more, count-without, count-changed, changed_none, found_in}
use Rattle.lists.proofs.PickLaws.{found_none, found_alike, only_one}
use Rattle.model.specs.Plan.{Record, threads, six, passes}
use Rattle.model.specs.Site.{may_admit, blocking, room}
use Rattle.model.specs.Net.{Call, Core, site_of, level_of, has, lookup, ticket_of, has_child, counts, waiting_order, admissible, in_the_way, newcomer}
use Rattle.model.specs.Net.{opened, closed, may_wake, to_wake, activated, woken}
use Rattle.model.specs.Command.{Command, start, call, return, take_back, refused, active, waiting, ended, fault, opening, serving, withdrawing, done, step, run, ask}
use Rattle.model.specs.Command.{standing, has_room, room_refused, room_at}
use Rattle.model.specs.NetRules.{Keeps}
use Rattle.model.specs.Steady.{Ending}
use Rattle.model.specs.Same.{Same}
use Rattle.model.proofs.CountsLaws.{of_level, counts_alike}
use Rattle.model.proofs.OrderLaws.{to_wake_oldest, order-opened, order-closed, order_withdrawn, order-woken, order_elsewhere, has_child_counted}
use Rattle.model.proofs.StepLaws.{accepted_step, refused_step, return_fits, back_fits, step_keeps}
use Rattle.model.proofs.FreeLaws.{found_by_ticket}

-- Calls as values

same_bool : Bool → Bool → Bool
same_bool a b = cond a b (not b)

same_bool_is : (a b : Bool) → same_bool a b ≡ true → a ≡ b
unfolding same_bool
same_bool_is true b e = sym e
same_bool_is false true e = absurd (never_both {b = false} e refl)
same_bool_is false false e = refl

bool_same : (a : Bool) → same_bool a a ≡ true
unfolding same_bool
bool_same true = refl
bool_same false = refl

-- the call c itself
itself : Call → Call → Bool
itself c d = (eqb c.ticket d.ticket && eqb c.parent d.parent) && (eqb c.node d.node && same_bool c.active d.active)

itself_is : (c d : Call) → itself c d ≡ true → c ≡ d
unfolding itself
itself_is c d e =
    let names = and_left (eqb c.ticket d.ticket && eqb c.parent d.parent) (eqb c.node d.node && same_bool c.active d.active) e in
    let rest = and_right (eqb c.ticket d.ticket && eqb c.parent d.parent) (eqb c.node d.node && same_bool c.active d.active) e in
    let ticket = eqb-true c.ticket d.ticket (and_left (eqb c.ticket d.ticket) (eqb c.parent d.parent) names) in
    let parent = eqb-true c.parent d.parent (and_right (eqb c.ticket d.ticket) (eqb c.parent d.parent) names) in
    let node = eqb-true c.node d.node (and_left (eqb c.node d.node) (same_bool c.active d.active) rest) in
    let active = same_bool_is c.active d.active (and_right (eqb c.node d.node) (same_bool c.active d.active) rest) in
    ap₂ (λ (t p : ℕ). record { ticket = t; parent = p; node = c.node; active = c.active }) ticket parent
    ∙ ap₂ (λ (n : ℕ) (a : Bool). record { ticket = d.ticket; parent = d.parent; node = n; active = a }) node active

is_itself : (c : Call) → itself c c ≡ true
unfolding itself
is_itself c =
    and_both (eqb c.ticket c.ticket && eqb c.parent c.parent) (eqb c.node c.node && same_bool c.active c.active)
    (and_both (eqb c.ticket c.ticket) (eqb c.parent c.parent) (eq-eqb c.ticket c.ticket refl) (eq-eqb c.parent c.parent refl))
    (and_both (eqb c.node c.node) (same_bool c.active c.active) (eq-eqb c.node c.node refl) (bool_same c.active))

-- the same calls, as far as they can be counted
abbrev pub Alike : List Call → List Call → Type 0
Alike cs ds = (f : Call → Bool) → count f cs ≡ count f ds

among_too : (cs ds : List Call) → Alike cs ds → (c : Call) → Memᴰ c cs → Memᴰ c ds
among_too cs ds alike c m =
    let some = count-some (itself c) cs c m (is_itself c) in
    let w = some_counted (itself c) ds (omega (arith, alike (itself c))) in
    subst (λ (x : Call). Memᴰ x ds) (sym (itself_is c w.0 w.2)) w.1

-- One plan, and two such lists of calls

module _ (rs : List Record) (cs ds : List Call) (alike : Alike cs ds) (orders : (s : ℕ) → waiting_order rs cs s ≡ waiting_order rs ds s) where
  length_same : length cs ≡ length ds
  length_same = sym (count-all cs) ∙ alike (λ c. true) ∙ count-all ds

  child_same : (t : ℕ) → has_child cs t ≡ has_child ds t
  child_same t = has_child_counted cs t ∙ ap (ltb 0) (alike _) ∙ sym (has_child_counted ds t)

  module _ (pass : passes six rs ≡ true) where
    counts_same : (s : ℕ) → counts rs cs s ≡ counts rs ds s
    counts_same s = counts_alike rs s pass ds cs (λ k. alike (of_level rs s k))

    admissible_same : (n : ℕ) → admissible rs cs n ≡ admissible rs ds n
    unfolding admissible
    admissible_same n = ap (λ (a : List ℕ). may_admit (threads rs (site_of rs n)) a (level_of rs n)) (counts_same (site_of rs n))

    in_the_way_same : (n : ℕ) → in_the_way rs cs n ≡ in_the_way rs ds n
    unfolding in_the_way
    in_the_way_same n = ap (λ (a : List ℕ). blocking (threads rs (site_of rs n)) a (level_of rs n)) (counts_same (site_of rs n))

    to_wake_same : (s : ℕ) → to_wake rs cs s ≡ to_wake rs ds s
    to_wake_same s =
        to_wake_oldest rs cs s
        ∙ found_alike (λ c. admissible rs cs c.node) (λ c. admissible rs ds c.node) (waiting_order rs cs s) (λ c m. admissible_same c.node)
        ∙ ap (found (λ c. admissible rs ds c.node)) (orders s)
        ∙ sym (to_wake_oldest rs ds s)

    woken_alike : (s : ℕ) → Alike (woken rs cs s) (woken rs ds s)
    unfolding woken to_wake
    woken_alike s f = go (to_wake rs cs s) refl
      where
        go : (o : Option Call) → to_wake rs cs s ≡ o → count f (changed activated (may_wake rs cs s) cs) ≡ count f (changed activated (may_wake rs ds s) ds)
        go none e =
            let e' : to_wake rs ds s ≡ none = sym (to_wake_same s) ∙ e in
            ap (count f) (changed_none activated (may_wake rs cs s) cs e) ∙ alike f ∙ sym (ap (count f) (changed_none activated (may_wake rs ds s) ds e'))
        go (some c) e =
            let e' : to_wake rs ds s ≡ some c = sym (to_wake_same s) ∙ e in
            omega (arith, count-changed activated (may_wake rs cs s) f cs c e, count-changed activated (may_wake rs ds s) f ds c e', alike f)

    woken_orders : (s r : ℕ) → waiting_order rs (woken rs cs s) r ≡ waiting_order rs (woken rs ds s) r
    woken_orders s r = ⊎_elim here there (true_or_false (eqb s r))
      where
        test-same : without (λ c. admissible rs cs c.node) (waiting_order rs cs s) ≡ without (λ c. admissible rs ds c.node) (waiting_order rs ds s)
        test-same = simp (admissible_same, orders)

        here : eqb s r ≡ true → waiting_order rs (woken rs cs s) r ≡ waiting_order rs (woken rs ds s) r
        here e =
            subst (λ (q : ℕ). waiting_order rs (woken rs cs s) q ≡ waiting_order rs (woken rs ds s) q) (eqb-true s r e)
            (order-woken rs cs s ∙ test-same ∙ sym (order-woken rs ds s))

        there : eqb s r ≡ false → waiting_order rs (woken rs cs s) r ≡ waiting_order rs (woken rs ds s) r
        there e =
            let apart = eqb-false s r e in
            order_elsewhere rs cs s r apart ∙ orders r ∙ sym (order_elsewhere rs ds s r apart)

    new_same : (parent ticket node : ℕ) → newcomer rs cs parent ticket node ≡ newcomer rs ds parent ticket node
    unfolding newcomer
    new_same parent ticket node = ap (λ (a : Bool). record { ticket = ticket; parent = parent; node = node; active = a }) (admissible_same node)

    opened_alike : (parent ticket node : ℕ) → Alike (opened rs cs parent ticket node) (opened rs ds parent ticket node)
    unfolding opened
    opened_alike parent ticket node f =
        omega (
          arith,
          count_more f cs (newcomer rs cs parent ticket node),
          count_more f ds (newcomer rs ds parent ticket node),
          alike f,
          ap (λ (c : Call). one (f c)) (new_same parent ticket node),
        )

    opened_orders : (parent ticket node s : ℕ) → waiting_order rs (opened rs cs parent ticket node) s ≡ waiting_order rs (opened rs ds parent ticket node) s
    opened_orders parent ticket node s =
        order-opened rs cs s parent ticket node ∙ (simp (orders s, new_same parent ticket node)) ∙ sym (order-opened rs ds s parent ticket node)

has_ticket : (t : ℕ) (c : Call) → has t c ≡ true → c.ticket ≡ t
unfolding has
has_ticket t c e = eqb-true c.ticket t e

-- the net of a plan and its calls
abbrev net_of : List Record → List Call → Core
net_of rs cs = record { plan = rs; calls = cs }

module _ (rs : List Record) (cs ds : List Call) (k : Keeps (net_of rs cs)) (l : Keeps (net_of rs ds)) (alike : Alike cs ds)
    (orders : (s : ℕ) → waiting_order rs cs s ≡ waiting_order rs ds s) where
  lookup_same : (t : ℕ) → lookup cs t ≡ lookup ds t
  lookup_same t = go (lookup cs t) refl
    where
      unseen : lookup cs t ≡ none → (o : Option Call) → lookup ds t ≡ o → none ≡ o
      unseen e none q = refl
      unseen e (some d) q =
          let w = found_in (has t) ds d q in
          absurd (omega (arith, count-some (has t) ds d w.0 w.1, alike (has t), count_none (has t) cs (found_none (has t) cs e)))

      go : (o : Option Call) → lookup cs t ≡ o → lookup cs t ≡ lookup ds t
      go none e = e ∙ unseen e (lookup ds t) refl
      go (some c) e =
          let w = found_in (has t) cs c e in
          let there = found_by_ticket (net_of rs ds) l c (among_too cs ds alike c w.0) in
          e ∙ sym there ∙ ap (lookup ds) (has_ticket t c w.1)

  fault_same : (c : Command) → fault (net_of rs cs) c ≡ fault (net_of rs ds) c
  unfolding fault
  fault_same (start ticket node) = rw (lookup_same ticket, length_same rs cs ds alike orders)
  fault_same (call parent ticket node) = rw (lookup_same ticket, lookup_same parent, length_same rs cs ds alike orders)
  fault_same (return ticket) = rw (lookup_same ticket, child_same rs cs ds alike orders ticket)
  fault_same (take_back ticket) = rw (lookup_same ticket)

  -- the call of a ticket that runs is the only one of that ticket, so that whoever has the ticket runs
  all-run : (es : List Call) → Keeps (net_of rs es) → (ticket : ℕ) (gone : Call) → Ending es ticket gone
      → (c : Call) → Memᴰ c es → has ticket c ≡ true → c.active ≡ true
  all-run es m ticket gone end c i h =
      let w = found_in (has ticket) es gone end.stands in
      ap (λ (x : Call). x.active) (only_one (has ticket) es (m.tickets_differ ticket) c gone i w.0 h w.1) ∙ end.runs

  closed_alike : (ticket : ℕ) (gone : Call) → lookup cs ticket ≡ some gone → Alike (closed cs ticket) (closed ds ticket)
  unfolding closed
  closed_alike ticket gone e f =
      omega (arith, count-without (has ticket) f cs gone e, count-without (has ticket) f ds gone (sym (lookup_same ticket) ∙ e), alike f)

  left_orders : (ticket : ℕ) (gone went : Call) → Ending cs ticket gone → Ending ds ticket went
      → (s : ℕ) → waiting_order rs (closed cs ticket) s ≡ waiting_order rs (closed ds ticket) s
  left_orders ticket gone went end end' s =
      order-closed rs cs s ticket (all-run cs k ticket gone end) ∙ orders s ∙ sym (order-closed rs ds s ticket (all-run ds l ticket went end'))

  returned_same : (ticket : ℕ) → fault (net_of rs cs) (return ticket) ≡ 0
      → ((done (net_of rs cs) (return ticket)).answer ≡ (done (net_of rs ds) (return ticket)).answer)
      × Same (done (net_of rs cs) (return ticket)).core (done (net_of rs ds) (return ticket)).core
  unfolding serving
  returned_same ticket e =
      let w = return_fits (net_of rs cs) ticket e in
      let v = return_fits (net_of rs ds) ticket (sym (fault_same (return ticket)) ∙ e) in
      let gone = w.0 in
      let s = site_of rs gone.node in
      let left = closed_alike ticket gone w.1.stands in
      let order = left_orders ticket gone v.0 w.1 v.1 in
      rw (← (lookup_same ticket), w.1.stands) (
        ap (λ (o : Option Call). ended (ticket_of o)) (to_wake_same rs (closed cs ticket) (closed ds ticket) left order k.plan_passes s),
        record {
          plans = refl;
          calls = woken_alike rs (closed cs ticket) (closed ds ticket) left order k.plan_passes s;
          orders = woken_orders rs (closed cs ticket) (closed ds ticket) left order k.plan_passes s;
        },
      )

  withdrawn_same : (ticket : ℕ) → fault (net_of rs cs) (take_back ticket) ≡ 0
      → ((done (net_of rs cs) (take_back ticket)).answer ≡ (done (net_of rs ds) (take_back ticket)).answer)
      × Same (done (net_of rs cs) (take_back ticket)).core (done (net_of rs ds) (take_back ticket)).core
  unfolding withdrawing
  withdrawn_same ticket e =
      let w = back_fits (net_of rs cs) ticket e in (
        refl,
        record {
          plans = refl;
          calls = closed_alike ticket w.0 w.1.stands;
          orders = λ s.
              order_withdrawn rs cs s ticket (k.tickets_differ ticket)
              ∙ ap (without (has ticket)) (orders s)
              ∙ sym (order_withdrawn rs ds s ticket (l.tickets_differ ticket));
        },
      )

  opened_same : (parent ticket node : ℕ)
      → ((opening rs cs parent ticket node).answer ≡ (opening rs ds parent ticket node).answer)
      × Same (opening rs cs parent ticket node).core (opening rs ds parent ticket node).core
  unfolding opening
  opened_same parent ticket node = (
    ap₂ (λ (b : Bool) (l : ℕ). cond b active (waiting l)) (admissible_same rs cs ds alike orders k.plan_passes node)
        (in_the_way_same rs cs ds alike orders k.plan_passes node),
    record {
      plans = refl;
      calls = opened_alike rs cs ds alike orders k.plan_passes parent ticket node;
      orders = opened_orders rs cs ds alike orders k.plan_passes parent ticket node;
    },
  )

  done_same : (c : Command) → fault (net_of rs cs) c ≡ 0
      → ((done (net_of rs cs) c).answer ≡ (done (net_of rs ds) c).answer) × Same (done (net_of rs cs) c).core (done (net_of rs ds) c).core
  done_same (start ticket node) e = opened_same no_ticket ticket node
  done_same (call parent ticket node) e = opened_same parent ticket node
  done_same (return ticket) e = returned_same ticket e
  done_same (take_back ticket) e = withdrawn_same ticket e

  calls_step_same : (c : Command)
      → ((step (net_of rs cs) c).answer ≡ (step (net_of rs ds) c).answer) × Same (step (net_of rs cs) c).core (step (net_of rs ds) c).core
  calls_step_same c =
      ⊎_elim
      (λ e.
      let fine = eqb-true (fault (net_of rs cs) c) 0 e in
      rw (accepted_step (net_of rs cs) c fine, accepted_step (net_of rs ds) c (sym (fault_same c) ∙ fine)) (done_same c fine))
      (λ e.
      let apart = eqb-false (fault (net_of rs cs) c) 0 e in
      rw (refused_step (net_of rs cs) c apart, refused_step (net_of rs ds) c (λ q. apart (fault_same c ∙ q)))
      (ap refused (fault_same c), record { plans = refl; calls = alike; orders = orders }))
      (true_or_false (eqb (fault (net_of rs cs) c) 0))

-- nets that differ in the places of their calls alone answer every command alike, and differ in no more afterwards
pub step_same : (a b : Core) → Keeps a → Keeps b → Same a b → (c : Command)
    → ((step a c).answer ≡ (step b c).answer) × Same (step a c).core (step b c).core
step_same a b k l same =
    subst
    (λ (p : List Record).
    Keeps (net_of p b.calls) → ((s : ℕ) → waiting_order a.plan a.calls s ≡ waiting_order p b.calls s)
    → (c : Command) → ((step a c).answer ≡ (step (net_of p b.calls) c).answer) × Same (step a c).core (step (net_of p b.calls) c).core)
    same.plans
    (λ l' orders. calls_step_same a.plan a.calls b.calls k l' same.calls orders)
    l same.orders

-- so they do after any run, and to every question
pub run_same : (a b : Core) → Keeps a → Keeps b → Same a b → (commands : List Command) → Same (run a commands) (run b commands)
run_same a b k l same [] = same
run_same a b k l same (c ∷ rest) =
    run_same (step a c).core (step b c).core (step_keeps a k c) (step_keeps b l c) (step_same a b k l same c).1 rest

module _ (a b : Core) (k : Keeps a) (l : Keeps b) (same : Same a b) where
  pub ask_same : (ticket : ℕ) → ask a ticket ≡ ask b ticket
  unfolding ask
  ask_same ticket =
      ap standing
      (subst (λ (p : List Record). Keeps (net_of p b.calls) → ((s : ℕ) → waiting_order a.plan a.calls s ≡ waiting_order p b.calls s)
      → lookup a.calls ticket ≡ lookup b.calls ticket)
      same.plans (λ l' orders. lookup_same a.plan a.calls b.calls k l' same.calls orders ticket) l same.orders)

  pub room_same : (s k : ℕ) → room_at a s k ≡ room_at b s k
  unfolding room_at
  room_same s j =
      subst (λ (p : List Record). room_at a s j ≡ room_at (net_of p b.calls) s j) same.plans
      (ap (λ (c : List ℕ). cond (not (eqb (threads a.plan s) 0) && ltb j (threads a.plan s)) (has_room (room (threads a.plan s) c j)) (room_refused 30))
      (counts_alike a.plan s k.plan_passes b.calls a.calls (λ i. same.calls (of_level a.plan s i))))

-- it is an equivalence
pub same_refl : (a : Core) → Same a a
same_refl a = record { plans = refl; calls = λ f. refl; orders = λ s. refl }

pub same_sym : {a b : Core} → Same a b → Same b a
same_sym w = record { plans = sym w.plans; calls = λ f. sym (w.calls f); orders = λ s. sym (w.orders s) }

pub same_trans : {a b c : Core} → Same a b → Same b c → Same a c
same_trans v w = record { plans = v.plans ∙ w.plans; calls = λ f. v.calls f ∙ w.calls f; orders = λ s. v.orders s ∙ w.orders s }
