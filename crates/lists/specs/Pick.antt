-- Lists under a test: how many entries pass it, the first that does, and the list without that one, or with that one changed. Assumes nothing.
use Rattle.std.specs.Prelude.{ℕ, zero, suc, ◌+◌, Bool, true, false, ◌&&◌, ◌||◌, cond, List, [], ◌∷◌}
use Rattle.std.proofs.Math.Option.{Option, none, some}
use Rattle.lists.specs.Count.{one}

module _ {A : Type 0} where
  -- how many pass
  unfoldable pub count : (A → Bool) → List A → ℕ
  count f [] = 0
  count f (x ∷ xs) = one (f x) + count f xs

  -- whether any passes
  unfoldable pub any : (A → Bool) → List A → Bool
  any f [] = false
  any f (x ∷ xs) = f x || any f xs

  -- whether all pass
  unfoldable pub all : (A → Bool) → List A → Bool
  all f [] = true
  all f (x ∷ xs) = f x && all f xs

  -- the first that passes
  unfoldable pub found : (A → Bool) → List A → Option A
  found f [] = none
  found f (x ∷ xs) = cond (f x) (some x) (found f xs)

  -- the list without the first that passes
  unfoldable pub without : (A → Bool) → List A → List A
  without f [] = []
  without f (x ∷ xs) = cond (f x) xs (x ∷ without f xs)

  -- the list with the first that passes changed
  unfoldable pub changed : (A → A) → (A → Bool) → List A → List A
  changed h f [] = []
  changed h f (x ∷ xs) = cond (f x) (h x ∷ xs) (x ∷ changed h f xs)

  -- those that pass, in their order
  unfoldable pub picked : (A → Bool) → List A → List A
  picked f [] = []
  picked f (x ∷ xs) = cond (f x) (x ∷ picked f xs) (picked f xs)

  -- what a number of an entry is, by its place; 0 past the end
  unfoldable pub tell : (A → ℕ) → List A → ℕ → ℕ
  tell g [] i = 0
  tell g (x ∷ xs) zero = g x
  tell g (x ∷ xs) (suc i) = tell g xs i

  -- whether the entry at a place passes; past the end none does
  unfoldable pub passes_at : (A → Bool) → List A → ℕ → Bool
  passes_at f [] i = false
  passes_at f (x ∷ xs) zero = f x
  passes_at f (x ∷ xs) (suc i) = passes_at f xs i

  -- the place of the first that passes, or the length
  unfoldable pub first_place : (A → Bool) → List A → ℕ
  first_place f [] = 0
  first_place f (x ∷ xs) = cond (f x) 0 (suc (first_place f xs))
