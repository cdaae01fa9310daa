-- A relation on nodes as a word for each node: the set of those that it leads to. Assumes nothing.
use Rattle.std.specs.Prelude.{ℕ, ◌<◌, ◌≡◌, Bool, List, get_or}
use Rattle.ids.specs.Limits.{nodes}
use Rattle.words.specs.Words.{member}

unfoldable pub linked : List ℕ → ℕ → ℕ → Bool
linked rows n m = member (get_or rows n 0) m

-- of the pairs of nodes, those of the relation and no others
abbrev pub RowsTell : List ℕ → (ℕ → ℕ → Bool) → Type 0
RowsTell rows relation = (n m : ℕ) → n < nodes → m < nodes → linked rows n m ≡ relation n m
