-- A table of bytes, one for each ordered pair of nodes, read as a relation on nodes: the pair (n, m) stands at 64 n + m. Assumes nothing.
use Rattle.std.specs.Prelude.{ℕ, ◌+◌, ◌*◌, ◌<◌, ◌≤◌, ◌≡◌, List, ◌↔◌, length, get_or}
use Rattle.ids.specs.Limits.{nodes}

-- a table that tells a relation: a byte for each pair, 1 where the pair is in the relation, and else 0
pub record TableTells (cells : List ℕ) (relation : ℕ → ℕ → Type 0) : Type 0 where
  pub long : length cells ≡ nodes * nodes
  pub small : (x : ℕ) → get_or cells x 0 ≤ 1
  pub told : (n m : ℕ) → n < nodes → m < nodes → (get_or cells (nodes * n + m) 0 ≡ 1) ↔ relation n m
