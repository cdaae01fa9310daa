-- The table of open calls under opening, closing and waking: who is found by a ticket, who has children, and who waits at a site in which order.
-- Each law once, from the laws of lists under a test. Assumes nothing.
use Prim.Native.Nat.{ℕ, ◌+◌, ◌≤◌}
use native.Mathlib.Omega.{arith}
use mathlib.Core.Path.{◌≡◌, refl, sym, ap, ◌∙◌}
use mathlib.Core.Logic.{◌↔◌, ◌⊎◌}
use mathlib.Core.Bool.{Bool, true, false, ◌&&◌, cond}
use mathlib.Core.List.{List, [], ◌∷◌, ◌++◌, Memᴰ}
use mathlib.Core.Option.{Option, none, some}
use lib.Dec.{ltb, eqb}
use borrow.Author.Tests.{eqb-true, eq-eqb, ne_eqb}
use Rattle.lists.specs.Count.{one}
use Rattle.lists.specs.Pick.{count, found, without, changed}
use Rattle.lists.proofs.CountLaws.{never_both, not_true_false, and_left, and_right}
use Rattle.lists.proofs.PickLaws.{count-some, count_more, count_fewer, count-without, count-changed, count-picked, only_one, any_counted}
use Rattle.lists.proofs.PickLaws.{found_in, found_none, found_some, found_more, found-last, found-without, found-changed, found-picked, in_without}
use Rattle.lists.proofs.PickLaws.{changed_none, changed_there, none_changed, picked_more, picked-without, picked_out, picked-changed, picked_apart, picked_all, all-picked}
use Rattle.model.specs.Plan.{Record}
use Rattle.model.specs.Net.{Call, has, lookup, is_child, has_child, is_on, waits_on, waiting_order, admissible, newcomer, opened, closed, may_wake}
use Rattle.model.specs.Net.{to_wake, activated, woken}
use Rattle.model.proofs.FirmLaws.{waits_site}

-- The waiting order

module _ (rs : List Record) (cs : List Call) (s : ℕ) where
  -- "each site's waiting order holds each of its waiting calls"
  pub order-holds : (c : Call) → Memᴰ c (waiting_order rs cs s) ↔ (Memᴰ c cs × (waits_on rs s c ≡ true))
  unfolding waiting_order
  order-holds c = (picked_all (waits_on rs s) cs c, λ w. all-picked (waits_on rs s) cs c w.0 w.1)

  -- "once and nothing else"
  pub order_once : (t : ℕ) → count (has t) cs ≤ 1 → count (has t) (waiting_order rs cs s) ≤ 1
  unfolding waiting_order
  order_once t h =
      omega (
        arith,
        count-picked (waits_on rs s) (has t) cs,
        count_fewer (λ c. waits_on rs s c && has t c) (has t) cs (λ c m e. and_right (waits_on rs s c) (has t c) e),
      )

  -- "the one that has waited longest" of those that may be admitted: the first of the waiting order
  pub to_wake_oldest : to_wake rs cs s ≡ found (λ c. admissible rs cs c.node) (waiting_order rs cs s)
  unfolding to_wake may_wake waiting_order
  to_wake_oldest = found-picked (waits_on rs s) (λ c. admissible rs cs c.node) cs

  -- "else it waits, last at its site"
  pub order-opened : (parent ticket node : ℕ) →
      let new = newcomer rs cs parent ticket node in
      waiting_order rs (opened rs cs parent ticket node) s ≡ waiting_order rs cs s ++ cond (waits_on rs s new) (new ∷ []) []
  unfolding waiting_order opened
  order-opened parent ticket node = picked_more (waits_on rs s) cs (newcomer rs cs parent ticket node)

  -- a call that ends has not waited
  pub order-closed : (ticket : ℕ) → ((c : Call) → Memᴰ c cs → has ticket c ≡ true → c.active ≡ true)
      → waiting_order rs (closed cs ticket) s ≡ waiting_order rs cs s
  unfolding waiting_order closed
  order-closed ticket runs =
      picked-without (has ticket) (waits_on rs s) cs
      (λ c m e. not_true_false (has ticket c) (λ h. never_both (runs c m h) (waits_site rs s c e).1))

  -- a call that is taken back leaves the order of its site, and "the others keep their order"
  pub order_withdrawn : (ticket : ℕ) → count (has ticket) cs ≤ 1 → waiting_order rs (closed cs ticket) s ≡ without (has ticket) (waiting_order rs cs s)
  unfolding waiting_order closed
  order_withdrawn ticket once = picked_out (has ticket) (waits_on rs s) cs once

  awake : (r : ℕ) (c : Call) → waits_on rs r (activated c) ≡ false
  unfolding waits_on
  awake r c = go (is_on rs r (activated c))
    where
      go : (b : Bool) → (b && false) ≡ false
      go true = refl
      go false = refl

  -- a call that is woken leaves the order of its site, and the others keep theirs
  pub order-woken : waiting_order rs (woken rs cs s) s ≡ without (λ c. admissible rs cs c.node) (waiting_order rs cs s)
  unfolding waiting_order woken may_wake
  order-woken = picked-changed activated (λ c. admissible rs cs c.node) (waits_on rs s) cs (awake s)

  pub order_elsewhere : (r : ℕ) → (s ≡ r → ⊥) → waiting_order rs (woken rs cs s) r ≡ waiting_order rs cs r
  unfolding waiting_order woken may_wake
  order_elsewhere r apart =
      picked_apart activated (may_wake rs cs s) (waits_on rs r) cs (awake r)
      (λ c e.
      not_true_false (waits_on rs r c)
      (λ h. apart (sym (waits_site rs s c (and_left (waits_on rs s c) (admissible rs cs c.node) e)).0 ∙ (waits_site rs r c h).0)))

-- Lookups

module _ (cs : List Call) where
  -- the newcomer is found by its own ticket, and by no other
  pub lookup-opened : (c : Call) (t : ℕ) → lookup cs c.ticket ≡ none
      → lookup (cs ++ (c ∷ [])) t ≡ cond (eqb c.ticket t) (some c) (lookup cs t)
  unfolding has
  lookup-opened c t fresh = go (eqb c.ticket t) refl (lookup cs t) refl
    where
      go : (b : Bool) → eqb c.ticket t ≡ b → (o : Option Call) → lookup cs t ≡ o → lookup (cs ++ (c ∷ [])) t ≡ cond b (some c) o
      go true e none q = found-last (has t) cs c q ∙ ap (λ (b : Bool). cond b (some c) none) e
      go false e none q = found-last (has t) cs c q ∙ ap (λ (b : Bool). cond b (some c) none) e
      go true e (some d) q =
          let same = eqb-true c.ticket t e in
          let none_there : lookup cs t ≡ none = ap (lookup cs) (sym same) ∙ fresh in
          let z : ◌≡◌ {A = ℕ} 0 1 = cc in
          absurd (omega arith)
      go false e (some d) q = found_more (has t) cs c d q

  -- closing one ticket leaves the others
  pub lookup-closed : (ticket t : ℕ) → (t ≡ ticket → ⊥) → lookup (closed cs ticket) t ≡ lookup cs t
  unfolding closed has
  lookup-closed ticket t apart =
      found-without (has ticket) (has t) cs (λ c e. ne_eqb c.ticket ticket (λ q. apart (sym (eqb-true c.ticket t e) ∙ q)))

  -- and, where tickets differ, nobody has the closed one any more
  pub lookup-closed_own : (ticket : ℕ) → count (has ticket) cs ≤ 1 → lookup (closed cs ticket) ticket ≡ none
  unfolding closed
  lookup-closed_own ticket once = go (lookup (without (has ticket) cs) ticket) refl (lookup cs ticket) refl
    where
      go : (o : Option Call) → lookup (without (has ticket) cs) ticket ≡ o → (p : Option Call) → lookup cs ticket ≡ p → o ≡ none
      go none e p q = refl
      go (some c) e none q =
          let w = found_in (has ticket) (without (has ticket) cs) c e in
          absurd (never_both w.1 (found_none (has ticket) cs q c (in_without (has ticket) cs c w.0)))
      go (some c) e (some d) q =
          let w = found_in (has ticket) (without (has ticket) cs) c e in
          let v = found_in (has ticket) cs d q in
          absurd
          (omega (arith, count-without (has ticket) (has ticket) cs d q, ap one v.1, count-some (has ticket) (without (has ticket) cs) c w.0 w.1))

  -- a call that is woken is found as it then is, and every other as before
  pub lookup-woken : (rs : List Record) (s t : ℕ) (c : Call) → lookup cs t ≡ some c
      → (lookup (woken rs cs s) t ≡ some c) ⊎ (lookup (woken rs cs s) t ≡ some (activated c))
  unfolding woken has
  lookup-woken rs s t c e = found-changed activated (may_wake rs cs s) (has t) cs c (λ x. refl) e

  pub lookup-woken_none : (rs : List Record) (s t : ℕ) → lookup cs t ≡ none → lookup (woken rs cs s) t ≡ none
  unfolding woken has
  lookup-woken_none rs s t e = none_changed activated (may_wake rs cs s) (has t) cs (λ x. refl) e

  -- the ticket that a return names is found active
  pub lookup_named : (rs : List Record) (s : ℕ) (d : Call) → to_wake rs cs s ≡ some d → count (has d.ticket) cs ≤ 1
      → lookup (woken rs cs s) d.ticket ≡ some (activated d)
  unfolding woken to_wake has
  lookup_named rs s d chosen once =
      let ds = changed activated (may_wake rs cs s) cs in
      let own = eq-eqb d.ticket d.ticket refl in
      let here = changed_there activated (may_wake rs cs s) cs d chosen in
      let w = found_some (has d.ticket) ds (activated d) here own in
      let v = found_in (has d.ticket) ds w.0 w.1 in
      let few : count (has d.ticket) ds ≤ 1 = omega (arith, count-changed activated (may_wake rs cs s) (has d.ticket) cs d chosen) in
      w.1 ∙ ap some (only_one (has d.ticket) ds few w.0 (activated d) v.0 here v.1 own)

-- Children

module _ (cs : List Call) (t : ℕ) where
  pub has_child_counted : has_child cs t ≡ ltb 0 (count (is_child t) cs)
  unfolding has_child
  has_child_counted = any_counted (is_child t) cs

  pub children_opened : (c : Call) → count (is_child t) (cs ++ (c ∷ [])) ≡ count (is_child t) cs + one (is_child t c)
  children_opened c = count_more (is_child t) cs c

  -- "its parent has one child fewer"
  pub children_closed : (ticket : ℕ) (c : Call) → lookup cs ticket ≡ some c → count (is_child t) cs ≡ one (is_child t c) + count (is_child t) (closed cs ticket)
  unfolding closed
  children_closed ticket c e = count-without (has ticket) (is_child t) cs c e

  pub children_woken : (rs : List Record) (s : ℕ) → count (is_child t) (woken rs cs s) ≡ count (is_child t) cs
  unfolding woken is_child to_wake
  children_woken rs s = go (to_wake rs cs s) refl
    where
      go : (o : Option Call) → to_wake rs cs s ≡ o → count (is_child t) (changed activated (may_wake rs cs s) cs) ≡ count (is_child t) cs
      go none e = ap (count (is_child t)) (changed_none activated (may_wake rs cs s) cs e)
      go (some c) e = omega (arith, count-changed activated (may_wake rs cs s) (is_child t) cs c e)
