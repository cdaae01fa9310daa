-- The sums A[k], lawfulness and one call more: the four laws of A by which everything else is shown, and the tests as the statements that
-- they decide. Assumes nothing.
use Prim.Native.Nat.{ℕ, zero, suc, ◌+◌, ◌-◌, ◌≤◌, ◌<◌}
use native.Mathlib.Nat.{add-zero, add-suc, add-sub_of_le}
use native.Mathlib.Omega.{arith}
use mathlib.Core.Path.{◌≡◌, ap, subst}
use mathlib.Core.Logic.{⊎_elim}
use mathlib.Core.Bool.{true, false, not, ◌||◌}
use mathlib.Core.List.{List}
use lib.ListN.{length, get_or, length-set}
use lib.Dec.{leb, ltb, eqb}
use borrow.Author.Tests.{leb-true, le-leb, lt-leb, ltb-false, le-ltb, eqb-true, eqb-false, eq-eqb, ne_eqb}
use Rattle.lists.proofs.CountLaws.{every_at, every-all, lt_or_ge, or_left, or_right, not_false_true}
use Rattle.lists.proofs.CountLaws.{sum-drop-step, sum-drop_end, sum-drop-raised, sum-drop_kept}
use Rattle.lists.specs.Count.{one}
use Rattle.model.specs.Site.{A, lawful, raised, full, refuses_site}
use Rattle.ids.specs.Limits.{most_threads}

-- The laws of A

-- one level
pub A-step : (a : List ℕ) (k : ℕ) → A a k ≡ get_or a k 0 + A a (suc k)
unfolding A
A-step a k = sum-drop-step a k

-- the end
pub A_end : (a : List ℕ) (k : ℕ) → length a ≤ k → A a k ≡ 0
unfolding A
A_end a k h = sum-drop_end a k h

-- one call more of level i is counted at every level up to i
pub A-raised : (a : List ℕ) (i k : ℕ) → i < length a → k ≤ i → A (raised a i) k ≡ suc (A a k)
unfolding A raised
A-raised a i k h l = sum-drop-raised a i k h l

-- and at none above
pub A_kept : (a : List ℕ) (i k : ℕ) → i < k → A (raised a i) k ≡ A a k
unfolding A raised
A_kept a i k l = sum-drop_kept a i k (suc (get_or a i 0)) l

pub raised-length : (a : List ℕ) (i : ℕ) → length (raised a i) ≡ length a
unfolding raised
raised-length a i = length-set a i (suc (get_or a i 0))

-- higher levels count fewer calls
pub A_falls : (a : List ℕ) (k n : ℕ) → A a (k + n) ≤ A a k
A_falls a k zero = omega (arith, ap (A a) (add-zero k))
A_falls a k (suc n) = omega (arith, A_falls a k n, A-step a (k + n), ap (A a) (add-suc k n))

pub A_down : (a : List ℕ) (k m : ℕ) → k ≤ m → A a m ≤ A a k
A_down a k m h = subst (λ (j : ℕ). A a j ≤ A a k) (add-sub_of_le h) (A_falls a k (m - k))

-- where more calls stand at or above k than at or above a higher level, one of them has a level between
pub level_between : (a : List ℕ) (k n : ℕ) → A a (k + n) < A a k → (j : ℕ) × (k ≤ j) × (j < k + n) × (1 ≤ get_or a j 0)
level_between a k zero h = absurd (omega (arith, ap (A a) (add-zero k)))
level_between a k (suc n) h =
    ⊎_elim
    (λ (p : A a (k + n) < A a k). let w = level_between a k n p in (w.0, w.1, omega (arith, w.2), w.3))
    (λ (p : A a k ≤ A a (k + n)). (k + n, omega arith, omega arith, omega (arith, A-step a (k + n), ap (A a) (add-suc k n))))
    (lt_or_ge (A a (k + n)) (A a k))

-- Lawful, as a statement: A[k] + k ≤ T for each k below T
pub lawful_at : (T : ℕ) (a : List ℕ) → lawful T a ≡ true → (k : ℕ) → k < T → A a k + k ≤ T
unfolding lawful
lawful_at T a e k h = omega (arith, leb-true (A a k) (T - k) (every_at T (λ j. leb (A a j) (T - j)) e k h))

pub lawful-all : (T : ℕ) (a : List ℕ) → ((k : ℕ) → k < T → A a k + k ≤ T) → lawful T a ≡ true
unfolding lawful
lawful-all T a h = every-all T (λ j. leb (A a j) (T - j)) (λ k l. le-leb (A a k) (T - k) (omega (arith, h k l)))

-- Full, as a statement: A[k] + k ≡ T, of k below T
pub full_is : (T : ℕ) (a : List ℕ) (k : ℕ) → k < T → full T a k ≡ true → A a k + k ≡ T
unfolding full
full_is T a k h e = omega (arith, eqb-true (A a k) (T - k) e)

pub is_full : (T : ℕ) (a : List ℕ) (k : ℕ) → A a k + k ≡ T → full T a k ≡ true
unfolding full
is_full T a k e = eq-eqb (A a k) (T - k) (omega arith)

-- A site that is not refused
pub record Accepted (T : ℕ) (a : List ℕ) : Type 0 where
  pub some : 0 < T
  pub most : T ≤ most_threads
  pub long : length a ≡ most_threads
  pub within : A a T ≡ 0
  pub law : lawful T a ≡ true

pub accepted : (T : ℕ) (a : List ℕ) → refuses_site T a ≡ false → Accepted T a
unfolding refuses_site
accepted T a e =
    let none = eqb T 0 in
    let many = ltb most_threads T in
    let short = not (eqb (length a) most_threads) in
    let over = not (eqb (A a T) 0) in
    let e₃ = or_left (none || many || short || over) (not (lawful T a)) e in
    let e₂ = or_left (none || many || short) over e₃ in
    let e₁ = or_left (none || many) short e₂ in
    let apart = eqb-false T 0 (or_left none many e₁) in
    record {
      some = omega arith;
      most = ltb-false most_threads T (or_right none many e₁);
      long = eqb-true (length a) most_threads (not_false_true (eqb (length a) most_threads) (or_right (none || many) short e₂));
      within = eqb-true (A a T) 0 (not_false_true (eqb (A a T) 0) (or_right (none || many || short) over e₃));
      law = not_false_true (lawful T a) (or_right (none || many || short || over) (not (lawful T a)) e);
    }

pub not_refused : (T : ℕ) (a : List ℕ) → Accepted T a → refuses_site T a ≡ false
unfolding refuses_site
not_refused T a ok =
    simp (
      ne_eqb T 0 (λ e. omega (arith, ok.some)),
      le-ltb most_threads T ok.most,
      eq-eqb (length a) most_threads ok.long,
      eq-eqb (A a T) 0 ok.within,
      ok.law,
    )

-- no level at or above T has a call
pub level_empty : (T : ℕ) (a : List ℕ) (k : ℕ) → A a T ≡ 0 → T ≤ k → A a k ≡ 0
level_empty T a k within h = omega (arith, A_down a T k h)

-- one call more of level i is one more at each level up to i
pub A-one : (a : List ℕ) (i k : ℕ) → i < length a → A (raised a i) k ≡ A a k + one (leb k i)
A-one a i k h =
    ⊎_elim
    (λ (p : i < k). omega (arith, A_kept a i k p, ap one (lt-leb k i p)))
    (λ (p : k ≤ i). omega (arith, A-raised a i k h p, ap one (le-leb k i p)))
    (lt_or_ge i k)
