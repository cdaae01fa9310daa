-- Rules of admission as sets of clauses. A rule has for each level i some clauses (k, d): level i is blocked at a site with T threads and
-- active calls `a` when T ≤ A[k] + d for one of them. live_p is the rule of the paper's Figure 4. Assumes nothing.
use Rattle.std.specs.Prelude.{ℕ, ◌+◌, ◌≤◌, ◌<◌, ◌≡◌, List, [], ◌∷◌}
use Rattle.model.specs.Site.{A}

-- (k, d) is a clause at level i
abbrev pub Rule : Type 1
Rule = ℕ → ℕ → ℕ → Type 0

-- φ'ᵢ[k], for each k at or below i: A[k] + 1 ≤ T - k
abbrev pub live_p : Rule
live_p i k d = (k ≤ i) × (d ≡ k)

abbrev pub Blocked : Rule → ℕ → List ℕ → ℕ → Type 0
Blocked rule T a i = (k : ℕ) × (d : ℕ) × rule i k d × (T ≤ A a k + d)

-- what makes a rule safe and lets it be served in order
pub record Sound (rule : Rule) : Type 0 where
  -- a clause at level i looks at levels up to i only, and reserves no more threads than i
  pub near : (i k d : ℕ) → rule i k d → (k ≤ d) × (d ≤ i)
  -- a higher level has every clause of a lower one, with as much reserved or more
  pub rising : (i k d l : ℕ) → rule i k d → i ≤ l → (e : ℕ) × rule l k e × (d ≤ e)
  -- each level up to i is watched by some clause at i
  pub watching : (i k : ℕ) → k ≤ i → (m : ℕ) × (e : ℕ) × rule i m e × (m ≤ k) × (k ≤ e)

-- each listed level is i or higher, and one of n
abbrev pub From : ℕ → ℕ → List ℕ → Type 0
From i n [] = Unit {0}
From i n (l ∷ ls) = (i ≤ l) × (l < n) × From i n ls
