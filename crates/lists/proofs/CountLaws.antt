-- Laws of tests over the numbers below a bound, of the least number that passes one, and of sums: by induction over the bound or the list.
-- Assumes nothing.
use Prim.Native.Nat.{ℕ, zero, suc, ◌+◌, ◌-◌, ◌≤◌, ◌<◌, min, zero-le, suc-le-suc}
use native.Mathlib.Nat.{not-suc-le-zero, le_of_suc-le-suc, eq-or-lt_of_le}
use native.Mathlib.Omega.{arith}
use mathlib.Core.Path.{◌≡◌, refl, sym, ap, ap₂, subst, ◌∙◌}
use mathlib.Core.Logic.{◌⊎◌, inl, inr, ⊎_elim, ◌↔◌}
use mathlib.Core.Bool.{Bool, true, false, not, ◌&&◌, ◌||◌, cond}
use mathlib.Core.List.{List, [], ◌∷◌}
use lib.ListN.{length, get_or, drop, set}
use Rattle.lists.specs.Count.{sum, every, first, last, smallest}

-- Cases
pub lt_or_ge : (a b : ℕ) → (a < b) ⊎ (b ≤ a)
lt_or_ge a zero = inr zero-le
lt_or_ge zero (suc b) = inl (suc-le-suc zero-le)
lt_or_ge (suc a) (suc b) = ⊎_elim (λ p. inl (suc-le-suc p)) (λ q. inr (suc-le-suc q)) (lt_or_ge a b)

-- a test is passed or not, with the equation
pub true_or_false : (b : Bool) → (b ≡ true) ⊎ (b ≡ false)
true_or_false true = inl refl
true_or_false false = inr refl

pub never_both : {b : Bool} → b ≡ true → b ≡ false → ⊥
never_both {b} p q = let z : ◌≡◌ {A = ℕ} 0 1 = ap (λ (t : Bool). cond t 0 1) (sym p) ∙ ap (λ (t : Bool). cond t 0 1) q in omega arith

pub not_true_false : (b : Bool) → (b ≡ true → ⊥) → b ≡ false
not_true_false true h = absurd (h refl)
not_true_false false h = refl

pub not_false_so : (b : Bool) → (b ≡ false → ⊥) → b ≡ true
not_false_so true f = refl
not_false_so false f = absurd (f refl)

-- Conjunction
pub and_left : (a b : Bool) → (a && b) ≡ true → a ≡ true
and_left true b e = refl
and_left false b e = e

pub and_right : (a b : Bool) → (a && b) ≡ true → b ≡ true
and_right true b e = e
and_right false b e = absurd (never_both {b = false} e refl)

pub and_both : (a b : Bool) → a ≡ true → b ≡ true → (a && b) ≡ true
and_both true b p q = q
and_both false b p q = p

-- Disjunction
pub or_left : (a b : Bool) → (a || b) ≡ false → a ≡ false
or_left true b e = e
or_left false b e = refl

pub or_right : (a b : Bool) → (a || b) ≡ false → b ≡ false
or_right true b e = absurd (never_both {b = true} refl e)
or_right false b e = e

-- Negation
pub not_false_true : (b : Bool) → not b ≡ false → b ≡ true
not_false_true true e = refl
not_false_true false e = absurd (never_both {b = true} refl e)

-- what a negated answer says of the test that it answers
pub denied : (b r : Bool) → b ≡ r → not b ≡ true → r ≡ false
denied b true e n = absurd (never_both {b = false} (sym (ap not e) ∙ n) refl)
denied b false e n = refl

pub granted : (b r : Bool) → b ≡ r → not b ≡ false → r ≡ true
granted b true e n = refl
granted b false e n = absurd (never_both {b = true} refl (sym (ap not e) ∙ n))

-- two tests that imply each other are equal
pub same_test : (a b : Bool) → (a ≡ true → b ≡ true) → (b ≡ true → a ≡ true) → a ≡ b
same_test true b f g = sym (f refl)
same_test false true f g = g refl
same_test false false f g = refl

-- so that a test is determined by what it decides
pub same_verdict : {X : Type 0} (a b : Bool) → (a ≡ true) ↔ X → (b ≡ true) ↔ X → a ≡ b
same_verdict a b f g = same_test a b (λ e. g.1 (f.0 e)) (λ e. f.1 (g.0 e))

-- Every number below a bound
pub every_at : (n : ℕ) (f : ℕ → Bool) → every n f ≡ true → (k : ℕ) → k < n → f k ≡ true
every_at zero f e k h = absurd (not-suc-le-zero h)
every_at (suc n) f e k h =
    ⊎_elim
    (λ q. subst (λ (j : ℕ). f j ≡ true) (sym q) (and_right (every n f) (f n) e))
    (λ l. every_at n f (and_left (every n f) (f n) e) k l)
    (eq-or-lt_of_le (le_of_suc-le-suc h))

pub every-all : (n : ℕ) (f : ℕ → Bool) → ((k : ℕ) → k < n → f k ≡ true) → every n f ≡ true
every-all zero f h = refl
every-all (suc n) f h = and_both (every n f) (f n) (every-all n f (λ k l. h k (omega arith))) (h n (omega arith))

-- The least number of which a test holds
pub first_le : (n : ℕ) (f : ℕ → Bool) → first n f ≤ n
unfolding first
first_le zero f = zero-le
first_le (suc n) f = go (f 0) (first_le n (λ k. f (suc k)))
  where
    go : (b : Bool) → first n (λ k. f (suc k)) ≤ n → cond b 0 (suc (first n (λ k. f (suc k)))) ≤ suc n
    go true ih = zero-le
    go false ih = suc-le-suc ih

pub first_holds : (n : ℕ) (f : ℕ → Bool) → first n f < n → f (first n f) ≡ true
unfolding first
first_holds zero f h = absurd (not-suc-le-zero h)
first_holds (suc n) f h = go (f 0) refl h (first_holds n (λ k. f (suc k)))
  where
    rest : ℕ
    rest = first n (λ k. f (suc k))

    go : (b : Bool) → f 0 ≡ b → cond b 0 (suc rest) < suc n → (rest < n → f (suc rest) ≡ true) → f (cond b 0 (suc rest)) ≡ true
    go true e l ih = e
    go false e l ih = ih (le_of_suc-le-suc l)

pub first_before : (n : ℕ) (f : ℕ → Bool) (k : ℕ) → k < first n f → f k ≡ false
unfolding first
first_before zero f k h = absurd (not-suc-le-zero h)
first_before (suc n) f k h = go (f 0) refl k h (first_before n (λ j. f (suc j)))
  where
    rest : ℕ
    rest = first n (λ j. f (suc j))

    go : (b : Bool) → f 0 ≡ b → (j : ℕ) → j < cond b 0 (suc rest) → ((i : ℕ) → i < rest → f (suc i) ≡ false) → f j ≡ false
    go true e j l ih = absurd (not-suc-le-zero l)
    go false e zero l ih = e
    go false e (suc j) l ih = ih j (le_of_suc-le-suc l)

-- a number that passes, with none below it that does, is the least
pub first_is : (n : ℕ) (f : ℕ → Bool) (k : ℕ) → k < n → f k ≡ true → ((j : ℕ) → j < k → f j ≡ false) → first n f ≡ k
first_is n f k l t before =
    ⊎_elim
    (λ (p : first n f < k). absurd (never_both (first_holds n f (omega arith)) (before (first n f) p)))
    (λ (p : k ≤ first n f). ⊎_elim (λ (q : k < first n f). absurd (never_both t (first_before n f k q))) (λ q. omega arith) (lt_or_ge k (first n f)))
    (lt_or_ge (first n f) k)

pub first_none : (n : ℕ) (f : ℕ → Bool) → ((j : ℕ) → j < n → f j ≡ false) → first n f ≡ n
first_none n f none =
    ⊎_elim
    (λ (p : first n f < n). absurd (never_both (first_holds n f p) (none (first n f) p)))
    (λ p. omega (arith, first_le n f))
    (lt_or_ge (first n f) n)

-- The greatest number of which a test holds
pub last_at : (n : ℕ) (f : ℕ → Bool) → f n ≡ true → last (suc n) f ≡ n
unfolding last
last_at n f e = rw e

pub last_passed : (n : ℕ) (f : ℕ → Bool) → f n ≡ false → last (suc n) f ≡ last n f
unfolding last
last_passed n f e = rw e

-- a search downwards has come to k: the greatest is the greatest up to there
module _ (top : ℕ) (f : ℕ → Bool) (k : ℕ) (come : last top f ≡ last (suc k) f) where
  pub last_here : f k ≡ true → k ≡ last top f
  last_here e = sym (come ∙ last_at k f e)

  pub last_lower : 0 < k → f k ≡ false → last top f ≡ last (suc (k - 1)) f
  last_lower h e = let q : suc (k - 1) ≡ k = omega arith in come ∙ last_passed k f e ∙ ap (λ (n : ℕ). last n f) (sym q)

  pub last_bottom : k ≤ 0 → 0 ≡ last top f
  unfolding last
  last_bottom h = let q : k ≡ 0 = omega arith in sym (come ∙ ap (λ (n : ℕ). last (suc n) f) q ∙ go (f 0))
    where
      go : (b : Bool) → ◌≡◌ {A = ℕ} (cond b 0 0) 0
      go true = refl
      go false = refl

-- two tests that agree below a bound have the same greatest
pub last_same : (n : ℕ) (f g : ℕ → Bool) → ((k : ℕ) → k < n → f k ≡ g k) → last n f ≡ last n g
unfolding last
last_same zero f g same = refl
last_same (suc n) f g same = ap₂ (λ (b : Bool) (m : ℕ). cond b n m) (same n (omega arith)) (last_same n f g (λ k h. same k (omega arith)))

-- a number that passes, with none above it that does, is the greatest
pub last_is : (n : ℕ) (f : ℕ → Bool) (k : ℕ) → k < n → f k ≡ true → ((j : ℕ) → k < j → j < n → f j ≡ false) → last n f ≡ k
last_is zero f k l t above = absurd (not-suc-le-zero l)
last_is (suc n) f k l t above =
    ⊎_elim
    (λ (e : k ≡ n). subst (λ (m : ℕ). last (suc n) f ≡ m) (sym e) (last_at n f (subst (λ (m : ℕ). f m ≡ true) e t)))
    (λ (p : k < n). last_passed n f (above n p (omega arith)) ∙ last_is n f k p t (λ j h q. above j h (omega arith)))
    (eq-or-lt_of_le (le_of_suc-le-suc l))

-- where some number passes, so does the greatest, and none above it
abbrev Greatest : (ℕ → Bool) → ℕ → ℕ → Type 0
Greatest f n m = (f m ≡ true) × (m < n) × ((j : ℕ) → m < j → j < n → f j ≡ false)

pub last-holds : (n : ℕ) (f : ℕ → Bool) (k : ℕ) → k < n → f k ≡ true → Greatest f n (last n f)
last-holds zero f k l t = absurd (not-suc-le-zero l)
last-holds (suc n) f k l t = go (f n) refl (λ p. last-holds n f k p t)
  where
    go : (b : Bool) → f n ≡ b → (k < n → Greatest f n (last n f)) → Greatest f (suc n) (last (suc n) f)
    go true e lower = subst (Greatest f (suc n)) (sym (last_at n f e)) (e, omega arith, λ j h q. absurd (omega arith))
    go false e lower =
        let apart : k ≡ n → ⊥ = λ q. never_both t (subst (λ (m : ℕ). f m ≡ false) (sym q) e) in
        let w = lower (omega (arith, apart)) in
        subst (Greatest f (suc n)) (sym (last_passed n f e)) (
          w.0,
          omega (arith, w.1),
          λ j h q. ⊎_elim (λ (r : j ≡ n). subst (λ (m : ℕ). f m ≡ false) (sym r) e) (λ (r : j < n). w.2 j h r) (eq-or-lt_of_le (le_of_suc-le-suc q)),
        )

-- The smallest of some numbers
pub smallest_le : (n : ℕ) (f : ℕ → ℕ) (k : ℕ) → k ≤ n → smallest n f ≤ f k
unfolding smallest
smallest_le zero f k h = let e : k ≡ 0 = omega arith in omega (arith, ap f e)
smallest_le (suc n) f k h =
    ⊎_elim
    (λ (e : k ≡ suc n). omega (arith, ap f e))
    (λ (l : k < suc n). omega (arith, smallest_le n f k (le_of_suc-le-suc l)))
    (eq-or-lt_of_le h)

-- one number more, the first one perhaps twice
pub smallest-next : (k : ℕ) (f : ℕ → ℕ) → min (smallest (k - 1) f) (f k) ≡ smallest k f
unfolding smallest
smallest-next zero f = omega arith
smallest-next (suc k) f = let down : suc k - 1 ≡ k = omega arith in ap (λ (n : ℕ). min (smallest n f) (f (suc k))) down

pub smallest_same : (n : ℕ) (f g : ℕ → ℕ) → ((k : ℕ) → k ≤ n → f k ≡ g k) → smallest n f ≡ smallest n g
unfolding smallest
smallest_same zero f g same = same 0 (omega arith)
smallest_same (suc n) f g same = ap₂ min (smallest_same n f g (λ k h. same k (omega arith))) (same (suc n) (omega arith))

-- one less of each is one less of the smallest
pub smallest-less : (n : ℕ) (f g : ℕ → ℕ) → ((k : ℕ) → k ≤ n → g k ≡ f k - 1) → smallest n g ≡ smallest n f - 1
unfolding smallest
smallest-less zero f g less = less 0 (omega arith)
smallest-less (suc n) f g less = omega (arith, smallest-less n f g (λ k h. less k (omega arith)), less (suc n) (omega arith))

-- and what is below each is below the smallest
pub smallest_above : (n : ℕ) (f : ℕ → ℕ) (m : ℕ) → ((k : ℕ) → k ≤ n → m ≤ f k) → m ≤ smallest n f
unfolding smallest
smallest_above zero f m each = each 0 (omega arith)
smallest_above (suc n) f m each = omega (arith, smallest_above n f m (λ k h. each k (omega arith)), each (suc n) (omega arith))

-- Sums of what is left of a list
pub sum-drop-step : (a : List ℕ) (k : ℕ) → sum (drop k a) ≡ get_or a k 0 + sum (drop (suc k) a)
sum-drop-step [] zero = refl
sum-drop-step [] (suc k) = refl
sum-drop-step (x ∷ xs) zero = refl
sum-drop-step (x ∷ xs) (suc k) = sum-drop-step xs k

pub sum-drop_end : (a : List ℕ) (k : ℕ) → length a ≤ k → sum (drop k a) ≡ 0
sum-drop_end [] zero h = refl
sum-drop_end [] (suc k) h = refl
sum-drop_end (x ∷ xs) zero h = absurd (not-suc-le-zero h)
sum-drop_end (x ∷ xs) (suc k) h = sum-drop_end xs k (le_of_suc-le-suc h)

-- one entry made one larger: the sums from it down grow by one, and those above it stay
pub sum-drop-raised : (a : List ℕ) (i k : ℕ) → i < length a → k ≤ i → sum (drop k (set a i (suc (get_or a i 0)))) ≡ suc (sum (drop k a))
sum-drop-raised [] i k h l = absurd (not-suc-le-zero h)
sum-drop-raised (x ∷ xs) zero zero h l = omega arith
sum-drop-raised (x ∷ xs) zero (suc k) h l = absurd (not-suc-le-zero l)
sum-drop-raised (x ∷ xs) (suc i) zero h l = omega (arith, sum-drop-raised xs i 0 (le_of_suc-le-suc h) zero-le)
sum-drop-raised (x ∷ xs) (suc i) (suc k) h l = sum-drop-raised xs i k (le_of_suc-le-suc h) (le_of_suc-le-suc l)

pub sum-drop_kept : (a : List ℕ) (i k v : ℕ) → i < k → sum (drop k (set a i v)) ≡ sum (drop k a)
sum-drop_kept [] i k v l = refl
sum-drop_kept (x ∷ xs) i zero v l = absurd (not-suc-le-zero l)
sum-drop_kept (x ∷ xs) zero (suc k) v l = refl
sum-drop_kept (x ∷ xs) (suc i) (suc k) v l = sum-drop_kept xs i k v (le_of_suc-le-suc l)

-- within a list the value given for its end does not matter
pub get_or_inside : {A : Type 0} (l : List A) (i : ℕ) (d e : A) → i < length l → get_or l i d ≡ get_or l i e
get_or_inside [] i d e h = absurd (not-suc-le-zero h)
get_or_inside (x ∷ xs) zero d e h = refl
get_or_inside (x ∷ xs) (suc i) d e h = get_or_inside xs i d e (le_of_suc-le-suc h)
