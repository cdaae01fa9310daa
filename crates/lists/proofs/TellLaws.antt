-- A list by the numbers of its entries, place by place: with one entry more, one less and one changed, and searched from its front. By induction over the
-- list. Assumes nothing.
use Prim.Native.Nat.{ℕ, zero, suc, ◌≤◌, ◌<◌}
use native.Mathlib.Omega.{arith}
use mathlib.Core.Path.{◌≡◌, refl, sym, ap, ◌∙◌}
use mathlib.Core.Logic.{⊎_elim}
use mathlib.Core.Bool.{Bool, true, false, ◌||◌, cond}
use mathlib.Core.List.{List, [], ◌∷◌, ◌++◌}
use mathlib.Core.Option.{none, some}
use lib.ListN.{length}
use lib.Dec.{eqb, ltb, eqb-suc-suc, eqb-zero-suc, eqb-suc-zero, leb-suc-suc}
use borrow.Author.Tests.{lt-ltb, le-ltb}
use Rattle.lists.specs.Count.{first, some as holds-below}
use Rattle.lists.specs.Pick.{any, found, without, changed, tell, passes_at, first_place}
use Rattle.lists.proofs.CountLaws.{true_or_false, never_both, or_left, or_right, first_none}
use Rattle.lists.proofs.BlockLaws.{some_none, none_some}

-- tests that agree below the bound
pub first_same : (n : ℕ) (f g : ℕ → Bool) → ((i : ℕ) → i < n → f i ≡ g i) → first n f ≡ first n g
unfolding first
first_same zero f g same = refl
first_same (suc n) f g same =
    rw (same 0 (omega arith), first_same n (λ k. f (suc k)) (λ k. g (suc k)) (λ k h. same (suc k) (omega arith)))

pub some_same : (n : ℕ) (f g : ℕ → Bool) → ((i : ℕ) → i < n → f i ≡ g i) → holds-below n f ≡ holds-below n g
unfolding holds-below
some_same zero f g same = refl
some_same (suc n) f g same = rw (same n (omega arith), some_same n f g (λ i h. same i (omega arith)))

module _ {A : Type 0} where
  pub tell-past : (g : A → ℕ) (xs : List A) (i : ℕ) → length xs ≤ i → tell g xs i ≡ 0
  unfolding tell
  tell-past g [] i h = refl
  tell-past g (x ∷ xs) zero h = absurd (omega arith)
  tell-past g (x ∷ xs) (suc i) h = tell-past g xs i (omega arith)

  pub tell_more : (g : A → ℕ) (xs : List A) (y : A) (i : ℕ) → tell g (xs ++ (y ∷ [])) i ≡ cond (eqb i (length xs)) (g y) (tell g xs i)
  unfolding tell
  tell_more g [] y zero = refl
  tell_more g [] y (suc i) = rw (eqb-suc-zero i)
  tell_more g (x ∷ xs) y zero = rw (eqb-zero-suc (length xs))
  tell_more g (x ∷ xs) y (suc i) = tell_more g xs y i ∙ ap (λ (b : Bool). cond b (g y) (tell g xs i)) (sym (eqb-suc-suc i (length xs)))

  -- The first that passes

  pub place_inside : (f : A → Bool) (xs : List A) (y : A) → found f xs ≡ some y → first_place f xs < length xs
  unfolding found first_place
  place_inside f [] y e = let z : ◌≡◌ {A = ℕ} 0 1 = cc in absurd (omega arith)
  place_inside f (x ∷ xs) y e = go (f x) e (place_inside f xs y)
    where
      go : (b : Bool) → cond b (some x) (found f xs) ≡ some y → (found f xs ≡ some y → first_place f xs < length xs)
          → cond b 0 (suc (first_place f xs)) < suc (length xs)
      go true h ih = omega arith
      go false h ih = omega (arith, ih h)

  pub tell-place : (g : A → ℕ) (f : A → Bool) (xs : List A) (y : A) → found f xs ≡ some y → tell g xs (first_place f xs) ≡ g y
  unfolding found first_place tell
  tell-place g f [] y e = let z : ◌≡◌ {A = ℕ} 0 1 = cc in absurd (omega arith)
  tell-place g f (x ∷ xs) y e = go (f x) e (tell-place g f xs y)
    where
      go : (b : Bool) → cond b (some x) (found f xs) ≡ some y → (found f xs ≡ some y → tell g xs (first_place f xs) ≡ g y)
          → tell g (x ∷ xs) (cond b 0 (suc (first_place f xs))) ≡ g y
      go true h ih = let same : x ≡ y = cc in ap g same
      go false h ih = ih h

  -- One entry less: what stands behind it moves up

  pub tell-without : (g : A → ℕ) (f : A → Bool) (xs : List A) (i : ℕ)
      → tell g (without f xs) i ≡ cond (ltb i (first_place f xs)) (tell g xs i) (tell g xs (suc i))
  unfolding without first_place tell
  tell-without g f [] i = go (ltb i 0)
    where
      go : (b : Bool) → ◌≡◌ {A = ℕ} 0 (cond b 0 0)
      go true = refl
      go false = refl
  tell-without g f (x ∷ xs) zero = go (f x)
    where
      go : (b : Bool) → tell g (cond b xs (x ∷ without f xs)) 0 ≡ cond (ltb 0 (cond b 0 (suc (first_place f xs)))) (g x) (tell g xs 0)
      go true = refl
      go false = rw (lt-ltb 0 (suc (first_place f xs)) (omega arith))
  tell-without g f (x ∷ xs) (suc i) = go (f x) (tell-without g f xs i)
    where
      go : (b : Bool) → tell g (without f xs) i ≡ cond (ltb i (first_place f xs)) (tell g xs i) (tell g xs (suc i))
          → tell g (cond b xs (x ∷ without f xs)) (suc i) ≡ cond (ltb (suc i) (cond b 0 (suc (first_place f xs)))) (tell g xs i) (tell g xs (suc i))
      go true ih = rw (le-ltb (suc i) 0 (omega arith))
      go false ih = ih ∙ ap (λ (b : Bool). cond b (tell g xs i) (tell g xs (suc i))) (sym (leb-suc-suc (suc i) (first_place f xs)))

  -- One entry changed where it stands

  pub tell-changed : (g : A → ℕ) (h : A → A) (f : A → Bool) (xs : List A) (y : A) → found f xs ≡ some y → (i : ℕ)
      → tell g (changed h f xs) i ≡ cond (eqb i (first_place f xs)) (g (h y)) (tell g xs i)
  unfolding found changed first_place tell
  tell-changed g h f [] y e i = let z : ◌≡◌ {A = ℕ} 0 1 = cc in absurd (omega arith)
  tell-changed g h f (x ∷ xs) y e zero = go (f x) e
    where
      go : (b : Bool) → cond b (some x) (found f xs) ≡ some y
          → tell g (cond b (h x ∷ xs) (x ∷ changed h f xs)) 0 ≡ cond (eqb 0 (cond b 0 (suc (first_place f xs)))) (g (h y)) (g x)
      go true q = let same : x ≡ y = cc in ap (λ (z : A). g (h z)) same
      go false q = rw (eqb-zero-suc (first_place f xs))
  tell-changed g h f (x ∷ xs) y e (suc i) = go (f x) e (λ q. tell-changed g h f xs y q i)
    where
      go : (b : Bool) → cond b (some x) (found f xs) ≡ some y
          → (found f xs ≡ some y → tell g (changed h f xs) i ≡ cond (eqb i (first_place f xs)) (g (h y)) (tell g xs i))
          → tell g (cond b (h x ∷ xs) (x ∷ changed h f xs)) (suc i) ≡ cond (eqb (suc i) (cond b 0 (suc (first_place f xs)))) (g (h y)) (tell g xs i)
      go true q ih = rw (eqb-suc-zero i)
      go false q ih = ih q ∙ ap (λ (b : Bool). cond b (g (h y)) (tell g xs i)) (sym (eqb-suc-suc i (first_place f xs)))

  -- a change that a number does not see
  pub tell_blind : (g : A → ℕ) (h : A → A) (f : A → Bool) (xs : List A) → ((x : A) → g (h x) ≡ g x) → (i : ℕ) → tell g (changed h f xs) i ≡ tell g xs i
  unfolding changed tell
  tell_blind g h f [] blind i = refl
  tell_blind g h f (x ∷ xs) blind zero = go (f x)
    where
      go : (b : Bool) → tell g (cond b (h x ∷ xs) (x ∷ changed h f xs)) 0 ≡ g x
      go true = blind x
      go false = refl
  tell_blind g h f (x ∷ xs) blind (suc i) = go (f x) (tell_blind g h f xs blind i)
    where
      go : (b : Bool) → tell g (changed h f xs) i ≡ tell g xs i → tell g (cond b (h x ∷ xs) (x ∷ changed h f xs)) (suc i) ≡ tell g xs i
      go true ih = refl
      go false ih = ih

  -- Searching place by place

  pub passes-past : (f : A → Bool) (xs : List A) (i : ℕ) → length xs ≤ i → passes_at f xs i ≡ false
  unfolding passes_at
  passes-past f [] i h = refl
  passes-past f (x ∷ xs) zero h = absurd (omega arith)
  passes-past f (x ∷ xs) (suc i) h = passes-past f xs i (omega arith)

  -- the first place that passes is that of the first entry that does, or the bound where there is none
  pub first_passes : (f : A → Bool) (xs : List A) (n : ℕ) → length xs ≤ n → first n (passes_at f xs) ≡ cond (any f xs) (first_place f xs) n
  unfolding first passes_at any first_place
  first_passes f [] n h = first_none n (passes_at f []) (λ j l. refl)
  first_passes f (x ∷ xs) zero h = absurd (omega arith)
  first_passes f (x ∷ xs) (suc n) h = go (f x) (any f xs) (first_passes f xs n (omega arith))
    where
      go : (b c : Bool) → first n (passes_at f xs) ≡ cond c (first_place f xs) n
          → cond b 0 (suc (first n (passes_at f xs))) ≡ cond (b || c) (cond b 0 (suc (first_place f xs))) (suc n)
      go true c ih = refl
      go false true ih = ap suc ih
      go false false ih = ap suc ih

  any-passes : (f : A → Bool) (xs : List A) → any f xs ≡ true → (i : ℕ) × (i < length xs) × (passes_at f xs i ≡ true)
  unfolding any passes_at
  any-passes f [] e = absurd (never_both {b = false} e refl)
  any-passes f (x ∷ xs) e = go (f x) refl e (any-passes f xs)
    where
      go : (b : Bool) → f x ≡ b → (b || any f xs) ≡ true → (any f xs ≡ true → (i : ℕ) × (i < length xs) × (passes_at f xs i ≡ true))
          → (i : ℕ) × (i < suc (length xs)) × (passes_at f (x ∷ xs) i ≡ true)
      go true t q ih = (0, omega arith, t)
      go false t q ih = let w = ih q in (suc w.0, omega (arith, w.1), w.2)

  none_passes : (f : A → Bool) (xs : List A) → any f xs ≡ false → (i : ℕ) → passes_at f xs i ≡ false
  unfolding any passes_at
  none_passes f [] e i = refl
  none_passes f (x ∷ xs) e zero = or_left (f x) (any f xs) e
  none_passes f (x ∷ xs) e (suc i) = none_passes f xs (or_right (f x) (any f xs) e) i

  pub some-passes : (f : A → Bool) (xs : List A) (n : ℕ) → length xs ≤ n → holds-below n (passes_at f xs) ≡ any f xs
  some-passes f xs n h = go (any f xs) refl
    where
      go : (b : Bool) → any f xs ≡ b → holds-below n (passes_at f xs) ≡ b
      go true e =
          let w = any-passes f xs e in
          ⊎_elim (λ q. q) (λ q. absurd (never_both w.2 (some_none n (passes_at f xs) q w.0 (omega (arith, w.1)))))
          (true_or_false (holds-below n (passes_at f xs)))
      go false e = none_some n (passes_at f xs) (λ k l. none_passes f xs e k)

  -- and whether any passes is whether one is found
  pub any_found : (f : A → Bool) (xs : List A) (y : A) → found f xs ≡ some y → any f xs ≡ true
  unfolding found any
  any_found f [] y e = let z : ◌≡◌ {A = ℕ} 0 1 = cc in absurd (omega arith)
  any_found f (x ∷ xs) y e = go (f x) e (any_found f xs y)
    where
      go : (b : Bool) → cond b (some x) (found f xs) ≡ some y → (found f xs ≡ some y → any f xs ≡ true) → (b || any f xs) ≡ true
      go true q ih = refl
      go false q ih = ih q

  pub any_not_found : (f : A → Bool) (xs : List A) → found f xs ≡ none → any f xs ≡ false
  unfolding found any
  any_not_found f [] e = refl
  any_not_found f (x ∷ xs) e = go (f x) e (any_not_found f xs)
    where
      go : (b : Bool) → cond b (some x) (found f xs) ≡ none → (found f xs ≡ none → any f xs ≡ false) → (b || any f xs) ≡ false
      go true q ih = let z : ◌≡◌ {A = ℕ} 0 1 = cc in absurd (omega arith)
      go false q ih = ih q
