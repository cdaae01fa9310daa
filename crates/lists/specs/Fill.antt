-- A list of which a part has been written anew. Assumes nothing.
use Rattle.std.specs.Prelude.{ℕ, ◌≤◌, ◌<◌, ◌≡◌, List, length, get_or}

-- the entries from `from` up to `to`, that one left out, are now those of f, and every other entry is as it was
pub record Filled (f : ℕ → ℕ) (from to : ℕ) (old new : List ℕ) : Type 0 where
  pub long : length new ≡ length old
  pub inside : (n : ℕ) → from ≤ n → n < to → get_or new n 0 ≡ f n
  pub outside : (n : ℕ) → (from ≤ n → n < to → ⊥) → get_or new n 0 ≡ get_or old n 0

-- what a change of one number makes of an entry
unfoldable pub renewed : (ℕ → ℕ) → List ℕ → ℕ → ℕ
renewed change old i = change (get_or old i 0)
