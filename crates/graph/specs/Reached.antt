-- What is reached over the rows of a relation, and when an edge is closed backwards. Assumes nothing.
use Rattle.std.specs.Prelude.{ℕ, List, T}
use Rattle.model.specs.Graph.{Reach}
use Rattle.words.specs.Words.{member}
use Rattle.links.specs.Rows.{linked}

-- of the set `all` each node ends a path from a node of `from`, and each such end is in it
pub record ReachedFrom (rows : List ℕ) (from all : ℕ) : Type 0 where
  pub sound : (m : ℕ) → T (member all m) → (n : ℕ) × T (member from n) × Reach (linked rows) n m
  pub complete : (n m : ℕ) → T (member from n) → Reach (linked rows) n m → T (member all m)

-- some edge is closed backwards by a path
abbrev pub ClosedBack : List ℕ → List ℕ → Type 0
ClosedBack edges paths = (n : ℕ) × (m : ℕ) × T (linked edges n m) × Reach (linked paths) m n
