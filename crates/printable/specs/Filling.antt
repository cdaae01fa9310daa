-- What the parts of the computation do: the nodes that a set calls, those on which a node depends, and a row of the table. Assumes nothing.
use Rattle.std.specs.Prelude.{ℕ, ◌+◌, ◌*◌, ◌<◌, ◌≡◌, Bool, List, ◌↔◌, T, length, get_or}
use mir.Val.{bool_byte}
use Rattle.ids.specs.Limits.{nodes}
use Rattle.model.specs.Graph.{Reach}
use Rattle.words.specs.Words.{member}
use Rattle.links.specs.Rows.{linked}

-- of the set `all` each node is called by a node of `set`, and each such node is in it
pub record Called (calls : List ℕ) (set all : ℕ) : Type 0 where
  pub sound : (m : ℕ) → T (member all m) → (n : ℕ) × T (member set n) × T (linked calls n m)
  pub complete : (n m : ℕ) → T (member set n) → T (linked calls n m) → T (member all m)

-- a path leads from n to a call edge, and one on from it to m
abbrev pub ByEdge : List ℕ → List ℕ → ℕ → ℕ → Type 0
ByEdge calls paths n m = (u : ℕ) × (v : ℕ) × Reach (linked paths) n u × T (linked calls u v) × Reach (linked paths) v m

-- the set of the nodes on which n depends
abbrev pub DependsOn : List ℕ → List ℕ → ℕ → ℕ → Type 0
DependsOn calls paths n word = (m : ℕ) → T (member word m) ↔ ByEdge calls paths n m

-- the first `count` places of the row of n are those of a test, and the other rows are as they were
pub record Rowed (old new : List ℕ) (n : ℕ) (row : ℕ → Bool) (count : ℕ) : Type 0 where
  pub done : (m : ℕ) → m < count → get_or new (nodes * n + m) 0 ≡ bool_byte (row m)
  pub other : (i m : ℕ) → (i ≡ n → ⊥) → m < nodes → get_or new (nodes * i + m) 0 ≡ get_or old (nodes * i + m) 0
  pub long : length new ≡ length old
