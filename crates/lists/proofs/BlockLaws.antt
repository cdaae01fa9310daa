-- Searches for the first number of which a test holds: by one number at a time, and by blocks. A search that has come to a place knows that nothing stands
-- before it, as an inequality. Assumes nothing.
use Prim.Native.Nat.{ℕ, zero, suc, ◌+◌, ◌-◌, ◌≤◌, ◌<◌}
use native.Mathlib.Omega.{arith}
use mathlib.Core.Path.{◌≡◌, refl, sym, ap, subst, ◌∙◌}
use mathlib.Core.Logic.{⊎_elim}
use mathlib.Core.Bool.{Bool, true, false, ◌||◌}
use Rattle.lists.specs.Count.{some, first}
use Rattle.lists.proofs.CountLaws.{lt_or_ge, never_both, or_left, or_right, first_le, first_holds, first_before, first_is}

-- Whether the test holds of some number

pub some_start : (f : ℕ → Bool) → some 0 f ≡ false
unfolding some
some_start f = refl

pub some_more : (n : ℕ) (f : ℕ → Bool) → some (n + 1) f ≡ (some n f || f n)
unfolding some
some_more n f = ap (λ (m : ℕ). some m f) (one_more n)
  where
    one_more : (n : ℕ) → n + 1 ≡ suc n
    one_more n = omega arith

-- a loop that joins the test of each number to what it has
pub some_turn : (n : ℕ) (f : ℕ → Bool) (hit here : Bool) → hit ≡ some n f → here ≡ f n → (hit || here) ≡ some (n + 1) f
some_turn n f hit here e q = rw (e, q) (sym (some_more n f))

pub some_end : (n m : ℕ) (f : ℕ → Bool) (hit : Bool) → n ≡ m → hit ≡ some n f → hit ≡ some m f
some_end n m f hit e h = h ∙ ap (λ (k : ℕ). some k f) e

pub some_none : (n : ℕ) (f : ℕ → Bool) → some n f ≡ false → (k : ℕ) → k < n → f k ≡ false
unfolding some
some_none zero f e k h = absurd (omega arith)
some_none (suc n) f e k h =
    ⊎_elim
    (λ (p : k < n). some_none n f (or_left (some n f) (f n) e) k p)
    (λ (p : n ≤ k). let same : n ≡ k = omega arith in subst (λ (j : ℕ). f j ≡ false) same (or_right (some n f) (f n) e))
    (lt_or_ge k n)

pub none_some : (n : ℕ) (f : ℕ → Bool) → ((k : ℕ) → k < n → f k ≡ false) → some n f ≡ false
unfolding some
none_some zero f none = refl
none_some (suc n) f none = rw (none_some n f (λ k h. none k (omega arith)), none n (omega arith))

-- and then the first of them is below the bound
pub some_holds : (n : ℕ) (f : ℕ → Bool) → some n f ≡ true → first n f < n
some_holds n f e =
    ⊎_elim
    (λ (p : first n f < n). p)
    (λ (p : n ≤ first n f). absurd (never_both e (none_some n f (λ k h. first_before n f k (omega arith)))))
    (lt_or_ge (first n f) n)

-- One number at a time: nothing stands before i

pub first_end : (n : ℕ) (f : ℕ → Bool) (i base : ℕ) → n ≤ i → i ≤ first n f → base + n ≡ base + first n f
first_end n f i base h low = omega (arith, first_le n f)

pub first_passed : (n : ℕ) (f : ℕ → Bool) (i : ℕ) → i < n → i ≤ first n f → f i ≡ false → i + 1 ≤ first n f
first_passed n f i h low e =
    ⊎_elim
    (λ (p : i < first n f). omega arith)
    (λ (p : first n f ≤ i).
    let same : first n f ≡ i = omega arith in
    absurd (never_both (subst (λ (k : ℕ). f k ≡ true) same (first_holds n f (omega arith))) e))
    (lt_or_ge i (first n f))

pub first_here : (n : ℕ) (f : ℕ → Bool) (i : ℕ) → i < n → i ≤ first n f → f i ≡ true → i ≡ first n f
first_here n f i h low e =
    ⊎_elim
    (λ (p : i < first n f). absurd (never_both e (first_before n f i p)))
    (λ (p : first n f ≤ i). omega arith)
    (lt_or_ge i (first n f))

-- By blocks: nothing stands before `base`

module _ (n : ℕ) (f : ℕ → Bool) (base size : ℕ) (inside : base + size ≤ n) (low : base ≤ first n f) where
  pub block_passed : some size (λ j. f (base + j)) ≡ false → base + size ≤ first n f
  block_passed e =
      ⊎_elim
      (λ (p : first n f < base + size).
      let j = first n f - base in
      let same : base + j ≡ first n f = omega arith in
      absurd (never_both (first_holds n f (omega arith)) (subst (λ (k : ℕ). f k ≡ false) same (some_none size (λ i. f (base + i)) e j (omega arith)))))
      (λ (p : base + size ≤ first n f). p)
      (lt_or_ge (first n f) (base + size))

  pub block_here : some size (λ j. f (base + j)) ≡ true → base + first size (λ j. f (base + j)) ≡ first n f
  block_here e = sym (first_is n f (base + at) (omega (arith, below)) (first_holds size (λ j. f (base + j)) below) before)
    where
      at : ℕ
      at = first size (λ j. f (base + j))

      below : at < size
      below = some_holds size (λ j. f (base + j)) e

      before : (k : ℕ) → k < base + at → f k ≡ false
      before k h =
          ⊎_elim
          (λ (p : k < base). first_before n f k (omega arith))
          (λ (p : base ≤ k).
          let same : base + (k - base) ≡ k = omega arith in
          subst (λ (i : ℕ). f i ≡ false) same (first_before size (λ j. f (base + j)) (k - base) (omega arith)))
          (lt_or_ge k base)
