-- Tests over the numbers below a bound, and sums of a list. Assumes nothing.
use Rattle.std.specs.Prelude.{ℕ, zero, suc, ◌+◌, min, Bool, true, false, ◌&&◌, ◌||◌, cond, List, [], ◌∷◌}

-- the sum of a list
abbrev pub sum : List ℕ → ℕ
sum [] = 0
sum (x ∷ xs) = x + sum xs

-- the test holds of every number below n
abbrev pub every : ℕ → (ℕ → Bool) → Bool
every zero f = true
every (suc n) f = every n f && f n

-- the least number below n of which the test holds, or n where there is none
unfoldable pub first : ℕ → (ℕ → Bool) → ℕ
first zero f = 0
first (suc n) f = cond (f 0) 0 (suc (first n (λ k. f (suc k))))

-- the greatest number below n of which the test holds, or 0 where there is none
unfoldable pub last : ℕ → (ℕ → Bool) → ℕ
last zero f = 0
last (suc n) f = cond (f n) n (last n f)

-- the smallest of f 0 to f n
unfoldable pub smallest : ℕ → (ℕ → ℕ) → ℕ
smallest zero f = f 0
smallest (suc n) f = min (smallest n f) (f (suc n))

-- the test holds of some number below n
unfoldable pub some : ℕ → (ℕ → Bool) → Bool
some zero f = false
some (suc n) f = some n f || f n

-- 1 for a test that is passed, else 0
abbrev pub one : Bool → ℕ
one true = 1
one false = 0
