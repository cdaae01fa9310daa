-- A list by the entry at each place. Assumes nothing.
use Rattle.std.specs.Prelude.{ℕ, zero, suc, List, [], ◌∷◌, ◌++◌}

module _ {A : Type 0} where
  -- f 0 to f (n - 1)
  unfoldable pub tabled : ℕ → (ℕ → A) → List A
  tabled zero f = []
  tabled (suc n) f = tabled n f ++ (f n ∷ [])
