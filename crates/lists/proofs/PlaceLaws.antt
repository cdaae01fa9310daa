-- What stands at a place of a list: its numbers and tests, and what the places say of all entries and of how many pass. By the entry in front. Assumes nothing.
use Prim.Native.Nat.{ℕ, zero, suc, ◌+◌, ◌≤◌, ◌<◌}
use native.Mathlib.Omega.{arith}
use native.Mathlib.Nat.{not-suc-le-zero, le_of_suc-le-suc}
use mathlib.Core.Path.{◌≡◌, refl, ap, ◌∙◌}
use mathlib.Core.Bool.{Bool, true, false, cond}
use mathlib.Core.List.{List, [], ◌∷◌, Memᴰ}
use lib.ListN.{length, get_or}
use Rattle.lists.specs.Count.{one}
use Rattle.lists.specs.Pick.{count, any, all, tell, passes_at, first_place}
use Rattle.lists.proofs.CountLaws.{never_both, and_both, not_true_false, not_false_so}
use Rattle.lists.proofs.PickLaws.{all_at, any_none}

module _ {A : Type 0} where
  pub tell_there : (g : A → ℕ) (xs : List A) (i : ℕ) (d : A) → i < length xs → tell g xs i ≡ g (get_or xs i d)
  unfolding tell
  tell_there g [] i d h = absurd (not-suc-le-zero h)
  tell_there g (x ∷ xs) zero d h = refl
  tell_there g (x ∷ xs) (suc i) d h = tell_there g xs i d (le_of_suc-le-suc h)

  pub passes_there : (f : A → Bool) (xs : List A) (i : ℕ) (d : A) → i < length xs → passes_at f xs i ≡ f (get_or xs i d)
  unfolding passes_at
  passes_there f [] i d h = absurd (not-suc-le-zero h)
  passes_there f (x ∷ xs) zero d h = refl
  passes_there f (x ∷ xs) (suc i) d h = passes_there f xs i d (le_of_suc-le-suc h)

  pub member_there : (xs : List A) (i : ℕ) (d : A) → i < length xs → Memᴰ (get_or xs i d) xs
  member_there [] i d h = absurd (not-suc-le-zero h)
  member_there (x ∷ xs) zero d h = Memᴰ.head refl
  member_there (x ∷ xs) (suc i) d h = Memᴰ.tail (member_there xs i d (le_of_suc-le-suc h))

  -- All entries

  pub all-places : (f : A → Bool) (xs : List A) → ((i : ℕ) → i < length xs → passes_at f xs i ≡ true) → all f xs ≡ true
  unfolding all passes_at
  all-places f [] h = refl
  all-places f (x ∷ xs) h = and_both (f x) (all f xs) (h zero (omega arith)) (all-places f xs (λ i l. h (suc i) (omega arith)))

  pub one_fails : (f : A → Bool) (xs : List A) (i : ℕ) (d : A) → i < length xs → f (get_or xs i d) ≡ false → all f xs ≡ false
  one_fails f xs i d h e = not_true_false (all f xs) (λ q. never_both (all_at f xs q (get_or xs i d) (member_there xs i d h)) e)

  pub any_there : (f : A → Bool) (xs : List A) (i : ℕ) (d : A) → i < length xs → f (get_or xs i d) ≡ true → any f xs ≡ true
  any_there f xs i d h e = not_false_so (any f xs) (λ q. never_both e (any_none f xs q (get_or xs i d) (member_there xs i d h)))

  -- How many pass

  none_passes : (f : A → Bool) (xs : List A) → ((i : ℕ) → passes_at f xs i ≡ true → ⊥) → count f xs ≡ 0
  unfolding count passes_at
  none_passes f [] h = refl
  none_passes f (x ∷ xs) h = omega (arith, ap one (not_true_false (f x) (h zero)), none_passes f xs (λ i. h (suc i)))

  pub at_most_one : (f : A → Bool) (xs : List A) → ((i : ℕ) → passes_at f xs i ≡ true → first_place f xs ≡ i) → count f xs ≤ 1
  unfolding count passes_at first_place
  at_most_one f [] h = omega arith
  at_most_one f (x ∷ xs) h = go (f x) refl (at_most_one f xs)
    where
      go : (b : Bool) → f x ≡ b → (((i : ℕ) → passes_at f xs i ≡ true → first_place f xs ≡ i) → count f xs ≤ 1) → one (f x) + count f xs ≤ 1
      go true e ih =
          omega (
            arith,
            ap one e,
            none_passes f xs
                (λ i q.
                let zero-there : first_place f (x ∷ xs) ≡ 0 = ap (λ (b : Bool). cond b 0 (suc (first_place f xs))) e in
                absurd (omega (arith, h (suc i) q, zero-there))),
          )
      go false e ih =
          omega (
            arith,
            ap one e,
            ih
                (λ i q. omega (arith, ap (λ (b : Bool). cond b 0 (suc (first_place f xs))) e, h (suc i) q)),
          )

  one_passes : (f : A → Bool) (xs : List A) (i : ℕ) → passes_at f xs i ≡ true → 1 ≤ count f xs
  unfolding count passes_at
  one_passes f [] i e = absurd (never_both {b = false} e refl)
  one_passes f (x ∷ xs) zero e = omega (arith, ap one e)
  one_passes f (x ∷ xs) (suc i) e = omega (arith, one_passes f xs i e)

  pub more_than_one : (f : A → Bool) (xs : List A) (i : ℕ) → passes_at f xs i ≡ true → (first_place f xs ≡ i → ⊥) → 2 ≤ count f xs
  unfolding count passes_at first_place
  more_than_one f [] i e ne = absurd (never_both {b = false} e refl)
  more_than_one f (x ∷ xs) zero e ne = absurd (ne (ap (λ (b : Bool). cond b 0 (suc (first_place f xs))) e))
  more_than_one f (x ∷ xs) (suc i) e ne = go (f x) refl (more_than_one f xs i e)
    where
      go : (b : Bool) → f x ≡ b → ((first_place f xs ≡ i → ⊥) → 2 ≤ count f xs) → 2 ≤ one (f x) + count f xs
      go true q ih = omega (arith, ap one q, one_passes f xs i e)
      go false q ih =
          omega (
            arith,
            ap one q,
            ih (λ p. ne (ap (λ (b : Bool). cond b 0 (suc (first_place f xs))) q ∙ ap suc p)),
          )
