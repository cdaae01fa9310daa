-- When each number of the commands' table is given: its test fails and every test before it passes, and the tests stand in document 01's order.
-- From the law of lists of tests, computed once a command. Assumes nothing.
use Prim.Native.Nat.{ℕ}
use mathlib.Core.Path.{◌≡◌, refl, subst}
use mathlib.Core.Logic.{◌↔◌}
use mathlib.Core.Bool.{Bool, true, false, cond}
use mathlib.Core.List.{List, [], ◌∷◌, map, Memᴰ}
use Rattle.lists.specs.Pick.{all}
use Rattle.lists.proofs.PickLaws.{all_at}
use Rattle.model.specs.Plan.{first_fault}
use Rattle.model.specs.Faults.{Given}
use Rattle.model.specs.Net.{Core}
use Rattle.model.specs.Command.{Command, start, call, return, take_back, tests, order, fault}
use Rattle.model.proofs.TestLaws.{lone, first_fault-is}

-- "Order for a start: 20, 21, 22, 26. For a call: 20, 21, 23, 24, 22, 25, 26. For a return: 27, 28, 29"
pub in_order : (net : Core) (c : Command) → map (λ (t : Bool × ℕ). t.1) (tests net c) ≡ order c
in_order net (start ticket node) = refl
in_order net (call parent ticket node) = refl
in_order net (return ticket) = refl
in_order net (take_back ticket) = refl

each_alone : (net : Core) (c : Command) → all (λ n. lone n (tests net c)) (order c) ≡ true
unfolding all
each_alone net (start ticket node) = refl
each_alone net (call parent ticket node) = refl
each_alone net (return ticket) = refl
each_alone net (take_back ticket) = refl

-- a number is "given exactly when" its test fails and each test before it passes; 0, no refusal, when all pass
pub given_exactly : (net : Core) (c : Command) (n : ℕ) → Memᴰ n (order c) → (fault net c ≡ n) ↔ Given n (tests net c)
unfolding fault
given_exactly net c n m = first_fault-is n (tests net c) (all_at (λ k. lone k (tests net c)) (order c) (each_alone net c) n m)

pub accepted_when : (net : Core) (c : Command) → (fault net c ≡ 0) ↔ Given 0 (tests net c)
unfolding fault
accepted_when net c = first_fault-is 0 (tests net c) (no_zero c)
  where
    no_zero : (d : Command) → lone 0 (tests net d) ≡ true
    no_zero (start ticket node) = refl
    no_zero (call parent ticket node) = refl
    no_zero (return ticket) = refl
    no_zero (take_back ticket) = refl

-- "gives the number from the table": no other number is given
first-among : (ts : List (Bool × ℕ)) → (first_fault ts ≡ 0 → ⊥) → Memᴰ (first_fault ts) (map (λ (t : Bool × ℕ). t.1) ts)
first-among [] h = absurd (h refl)
first-among (t ∷ ts) h = go t.0 h (first-among ts)
  where
    go : (b : Bool) → (cond b (first_fault ts) t.1 ≡ 0 → ⊥)
        → ((first_fault ts ≡ 0 → ⊥) → Memᴰ (first_fault ts) (map (λ (u : Bool × ℕ). u.1) ts))
        → Memᴰ (cond b (first_fault ts) t.1) (t.1 ∷ map (λ (u : Bool × ℕ). u.1) ts)
    go true g rest = Memᴰ.tail (rest g)
    go false g rest = Memᴰ.head refl

pub from_table : (net : Core) (c : Command) → (fault net c ≡ 0 → ⊥) → Memᴰ (fault net c) (order c)
unfolding fault
from_table net c h = subst (Memᴰ (fault net c)) (in_order net c) (first-among (tests net c) h)
