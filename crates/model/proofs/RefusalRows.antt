-- The tests of a command decide the rows of 01's table, in a net that keeps the rules: each test fails exactly where its row holds, once the tests
-- before it have passed. So a number is given exactly when its row is the first that holds. Assumes nothing.
use Prim.Native.Nat.{ℕ}
use native.Mathlib.Omega.{arith}
use mathlib.Core.Path.{◌≡◌, refl, sym, ap, subst, ◌∙◌}
use mathlib.Core.Logic.{◌↔◌, ⊎_elim}
use mathlib.Core.Bool.{Bool, true, false, not, cond}
use mathlib.Core.List.{List, [], ◌∷◌, Memᴰ}
use mathlib.Core.Option.{Option, none, some}
use lib.ListN.{length}
use lib.Dec.{eqb, ltb}
use borrow.Author.Tests.{eqb-true, eq-eqb, ltb-false, le-ltb}
use Rattle.ids.specs.Limits.{no_ticket, most_open}
use Rattle.lists.specs.Pick.{any}
use Rattle.lists.proofs.CountLaws.{true_or_false, never_both, not_true_false}
use Rattle.lists.proofs.PickLaws.{found_in, any_some, any_none}
use Rattle.model.specs.Plan.{Record, edge, has_edge, present, six}
use Rattle.model.specs.Records.{Listed}
use Rattle.model.specs.Faults.{Given}
use Rattle.model.specs.Net.{Call, Core, has_node, has, lookup, is_open, is_active, node_of, is_child, has_child}
use Rattle.model.specs.NetRules.{Keeps}
use Rattle.model.specs.Command.{Command, start, call, return, take_back, tests, order, fault}
use Rattle.model.specs.Refusals.{Open, Runs, Waits, Row, rows, First}
use Rattle.model.proofs.GraphLaws.{yes, is_true}
use Rattle.model.proofs.RecordLaws.{passes_ok, listed-place}
use Rattle.model.proofs.PlanLaws.{calls_listed, listed_calls}
use Rattle.model.proofs.PlaceLaws.{node_record}
use Rattle.model.proofs.FreeLaws.{found_by_ticket}
use Rattle.model.proofs.GivenLaws.{given_exactly, accepted_when}

-- tests that decide rows, one after the other: each may lean on those before it having passed
Decides : List (Bool × ℕ) → List Row → Type 0
Decides [] [] = Unit {0}
Decides [] (r ∷ rs) = ⊥
Decides (t ∷ ts) [] = ⊥
Decides (t ∷ ts) (r ∷ rs) = (t.1 ≡ r.number) × ((t.0 ≡ false) ↔ r.when) × (t.0 ≡ true → Decides ts rs)

decided-rows : (n : ℕ) (ts : List (Bool × ℕ)) (rs : List Row) → Decides ts rs → Given n ts ↔ First n rs
unfolding Decides
decided-rows n [] [] d = ((λ e. e), (λ e. e))
decided-rows n [] (r ∷ rs) d = absurd d
decided-rows n (t ∷ ts) [] d = absurd d
decided-rows n (t ∷ ts) (r ∷ rs) d =
    subst
    (λ (m : ℕ).
    cond (eqb t.1 n) (t.0 ≡ false) ((t.0 ≡ true) × Given n ts) ↔ cond (eqb m n) r.when ((r.when → ⊥) × First n rs))
    d.0 (go (eqb t.1 n) t.0 refl (decided-rows n ts rs))
  where
    go : (b v : Bool) → t.0 ≡ v → (Decides ts rs → Given n ts ↔ First n rs)
        → cond b (t.0 ≡ false) ((t.0 ≡ true) × Given n ts) ↔ cond b r.when ((r.when → ⊥) × First n rs)
    go true v e rest = d.1
    go false true e rest =
        let later = rest (d.2 e) in
        ((λ g. ((λ w. never_both g.0 (d.1.1 w)), later.0 g.1)), (λ h. (e, later.1 h.1)))
    go false false e rest = ((λ g. absurd (never_both g.0 e)), (λ h. absurd (h.0 (d.1.0 e))))

-- The rows

not_false_is : (b : Bool) → not b ≡ false → b ≡ true
not_false_is true e = refl
not_false_is false e = absurd (never_both {b = true} refl e)

module _ (net : Core) (k : Keeps net) where
  abbrev cs : List Call
  cs = net.calls

  abbrev rs : List Record
  rs = net.plan

  open_found : (ticket : ℕ) → (is_open (lookup cs ticket) ≡ true) ↔ Open net ticket
  unfolding has
  open_found ticket = (from (lookup cs ticket) refl, into)
    where
      from : (o : Option Call) → lookup cs ticket ≡ o → is_open o ≡ true → Open net ticket
      from none q e = absurd (never_both {b = false} e refl)
      from (some c) q e = let w = found_in (has ticket) cs c q in (c, w.0, eqb-true c.ticket ticket w.1)

      into : Open net ticket → is_open (lookup cs ticket) ≡ true
      into w = ap is_open (ap (lookup cs) (sym w.2) ∙ found_by_ticket net k w.0 w.1)

  not_open : (ticket : ℕ) → (is_open (lookup cs ticket) ≡ false) ↔ (Open net ticket → ⊥)
  not_open ticket = (
    (λ e w. never_both ((open_found ticket).1 w) e),
    (λ h. not_true_false (is_open (lookup cs ticket)) (λ e. h ((open_found ticket).0 e))),
  )

  is_taken : (ticket : ℕ) → (not (is_open (lookup cs ticket)) ≡ false) ↔ Open net ticket
  is_taken ticket = (
    (λ e. (open_found ticket).0 (not_false_is (is_open (lookup cs ticket)) e)),
    (λ w. ap not ((open_found ticket).1 w)),
  )

  -- of a ticket that is open
  waits : (ticket : ℕ) → is_open (lookup cs ticket) ≡ true → (is_active (lookup cs ticket) ≡ false) ↔ Waits net ticket
  unfolding has
  waits ticket e = (from (lookup cs ticket) refl e, into)
    where
      from : (o : Option Call) → lookup cs ticket ≡ o → is_open o ≡ true → is_active o ≡ false → Waits net ticket
      from none q e a = absurd (never_both {b = false} e refl)
      from (some c) q e a = let w = found_in (has ticket) cs c q in (c, w.0, eqb-true c.ticket ticket w.1, a)

      into : Waits net ticket → is_active (lookup cs ticket) ≡ false
      into w = ap is_active (ap (lookup cs) (sym w.2) ∙ found_by_ticket net k w.0 w.1) ∙ w.3

  runs : (ticket : ℕ) → is_open (lookup cs ticket) ≡ true → (not (is_active (lookup cs ticket)) ≡ false) ↔ Runs net ticket
  unfolding has
  runs ticket e = (from (lookup cs ticket) refl, into)
    where
      from : (o : Option Call) → lookup cs ticket ≡ o → not (is_active o) ≡ false → Runs net ticket
      from none q a = absurd (never_both {b = true} refl a)
      from (some c) q a = let w = found_in (has ticket) cs c q in (c, w.0, eqb-true c.ticket ticket w.1, not_false_is c.active a)

      into : Runs net ticket → not (is_active (lookup cs ticket)) ≡ false
      into w = ap not (ap is_active (ap (lookup cs) (sym w.2) ∙ found_by_ticket net k w.0 w.1) ∙ w.3)

  unlisted : (n : ℕ) → (has_node rs n ≡ false) ↔ (Listed rs n → ⊥)
  unfolding has_node
  unlisted n = (
    (λ e w. never_both (ap present (listed-place rs n w.0 w.1 (passes_ok six rs k.plan_passes).rising w.2)) e),
    (λ h. not_true_false (has_node rs n) (λ e. h (_, _, node_record rs n e))),
  )

  -- of a parent that is open
  no_edge : (parent n : ℕ) → is_open (lookup cs parent) ≡ true
      → (has_edge rs (node_of (lookup cs parent)) n ≡ false) ↔ ((c : Call) → Memᴰ c cs → c.ticket ≡ parent → Memᴰ (edge c.node n) rs → ⊥)
  unfolding has
  no_edge parent n e = (from, λ h. into h (lookup cs parent) refl e)
    where
      from : has_edge rs (node_of (lookup cs parent)) n ≡ false → (c : Call) → Memᴰ c cs → c.ticket ≡ parent → Memᴰ (edge c.node n) rs → ⊥
      from q c m t i =
          let here : lookup cs parent ≡ some c = ap (lookup cs) (sym t) ∙ found_by_ticket net k c m in
          never_both (is_true (has_edge rs c.node n) (listed_calls rs c.node n i)) (sym (ap (λ (o : Option Call). has_edge rs (node_of o) n) here) ∙ q)

      into : ((c : Call) → Memᴰ c cs → c.ticket ≡ parent → Memᴰ (edge c.node n) rs → ⊥) → (o : Option Call) → lookup cs parent ≡ o
          → is_open o ≡ true → has_edge rs (node_of o) n ≡ false
      into h none q e = absurd (never_both {b = false} e refl)
      into h (some c) q e =
          let w = found_in (has parent) cs c q in
          not_true_false (has_edge rs c.node n) (λ i. h c w.0 (eqb-true c.ticket parent w.1) (calls_listed rs c.node n (yes i)))

  full : (ltb (length cs) most_open ≡ false) ↔ (length cs ≡ most_open)
  full = ((λ e. omega (arith, ltb-false (length cs) most_open e, k.few_open)), (λ e. le-ltb (length cs) most_open (omega arith)))

  childless : (ticket : ℕ) → (not (has_child cs ticket) ≡ false) ↔ ((c : Call) × Memᴰ c cs × (c.parent ≡ ticket))
  unfolding has_child is_child
  childless ticket = (
    (λ e. let w = any_some (is_child ticket) cs (not_false_is (has_child cs ticket) e) in (w.0, w.1, eqb-true w.0.parent ticket w.2)),
    (λ w. ap not (child-there w)),
  )
    where
      child-there : (c : Call) × Memᴰ c cs × (c.parent ≡ ticket) → any (is_child ticket) cs ≡ true
      child-there w =
          ⊎_elim
          (λ e. e)
          (λ e. absurd (never_both (eq-eqb w.0.parent ticket w.2) (any_none (is_child ticket) cs e w.0 w.1)))
          (true_or_false (any (is_child ticket) cs))

  no_number : (ticket : ℕ) → (not (eqb ticket no_ticket) ≡ false) ↔ (ticket ≡ no_ticket)
  no_number ticket = (
    (λ e. eqb-true ticket no_ticket (not_false_is (eqb ticket no_ticket) e)),
    (λ e. ap not (eq-eqb ticket no_ticket e)),
  )

  rows-decided : (c : Command) → Decides (tests net c) (rows net c)
  unfolding Decides
  rows-decided (start ticket node) =
      (refl, no_number ticket, λ a. (refl, is_taken ticket, λ b. (refl, unlisted node, λ c. (refl, full, λ d. tt))))
  rows-decided (call parent ticket node) = (
    refl,
    no_number ticket,
    λ a. (
      refl,
      is_taken ticket,
      λ b. (
        refl,
        not_open parent,
        λ there. (
          refl,
          waits parent there,
          λ c. (refl, unlisted node, λ d. (refl, no_edge parent node there, λ e. (refl, full, λ f. tt))),
        ),
      ),
    ),
  )
  rows-decided (return ticket) = (refl, not_open ticket, λ there. (refl, waits ticket there, λ a. (refl, childless ticket, λ b. tt)))
  rows-decided (take_back ticket) = (refl, not_open ticket, λ there. (refl, runs ticket there, λ a. tt))

  -- "given exactly when": a number of the order is given exactly where its row is the first that holds
  pub refused_exactly : (c : Command) (n : ℕ) → Memᴰ n (order c) → (fault net c ≡ n) ↔ First n (rows net c)
  refused_exactly c n m =
      let given = given_exactly net c n m in
      let first = decided-rows n (tests net c) (rows net c) (rows-decided c) in
      ((λ e. first.0 (given.0 e)), (λ h. given.1 (first.1 h)))

  -- and a command is accepted exactly where none does
  pub accepted_exactly_when : (c : Command) → (fault net c ≡ 0) ↔ First 0 (rows net c)
  accepted_exactly_when c =
      let given = accepted_when net c in
      let first = decided-rows 0 (tests net c) (rows net c) (rows-decided c) in
      ((λ e. first.0 (given.0 e)), (λ h. given.1 (first.1 h)))
