-- What the searches of `table` look for, and what the arrays hold after a change, for its contracts. Assumes nothing.
use Rattle.std.specs.Prelude.{ℕ, ◌+◌, ◌^◌, ◌≤◌, ◌<◌, ◌≡◌, Bool, false, ◌&&◌, List, length, get_or, leb, ltb, eqb, Option, Some, None}
use Rattle.ids.specs.Limits.{most_open}
use Rattle.lists.specs.Count.{first, some}
use Rattle.lists.specs.Fill.{Filled}
use Rattle.table.specs.declared.Table.{Table}

-- the places that a block has
abbrev pub block : ℕ
block = 32

-- a number stands at a place
unfoldable pub holds : List ℕ → ℕ → ℕ → Bool
holds numbers wanted i = eqb (get_or numbers i 0) wanted

-- a number above `low` and up to `top` stands at a place
unfoldable pub between : List ℕ → ℕ → ℕ → ℕ → Bool
between numbers low top i = ltb low (get_or numbers i 0) && leb (get_or numbers i 0) top

-- the number at a place passes a test
unfoldable pub passing : (ℕ → Bool) → List ℕ → ℕ → Bool
passing test numbers i = test (get_or numbers i 0)

-- each result of a call is what a test says of the number
abbrev pub Decides : (ℕ → Bool → Type 0) → (ℕ → Bool) → Type 0
Decides results test = (x : ℕ) → x < 2 ^ 16 → (r : Bool) → results x r → r ≡ test x

-- a test seen from a place on
abbrev pub past : ℕ → (ℕ → Bool) → ℕ → Bool
past base f j = f (base + j)

-- what a look into the block from `base` on answers: the first place that passes a test, or none
abbrev pub Looked : Option ℕ → ℕ → (ℕ → Bool) → Type 0
Looked None base f = some block (past base f) ≡ false
Looked (Some at) base f = at ≡ base + first block (past base f)

-- what a search for the first place that passes a test answers: the place, inside the table, or none where there is no such place
abbrev pub Found : Option ℕ → (ℕ → Bool) → Type 0
Found None f = most_open ≡ first most_open f
Found (Some at) f = (at ≡ first most_open f) × (at < most_open)

-- a whole table with zeros past its count
pub record Padded (numbers : List ℕ) (used : ℕ) : Type 0 where
  pub whole : length numbers ≡ most_open
  pub few : used ≤ most_open
  pub zeros : (i : ℕ) → used ≤ i → get_or numbers i 0 ≡ 0

-- a table, and a number that is none of its zeros
pub record Searched (numbers : List ℕ) (used wanted : ℕ) : Type 0 where
  pub table : Padded numbers used
  pub some_number : 0 < wanted

-- a place of the table that is taken
pub record Gap (t : Table) (at : ℕ) : Type 0 where
  pub tickets_table : Padded t.tickets t.used
  pub parents_table : Padded t.parents t.used
  pub keys_table : Padded t.keys t.used
  pub nodes_table : Padded t.nodes t.used
  pub taken : at < t.used

-- what stands one place further; behind the last number stands a zero, so that closing the gap is this alone
unfoldable pub next_of : List ℕ → ℕ → ℕ
next_of numbers i = get_or numbers (i + 1) 0

-- an array whose places from `at` up to i hold what stood one place further
abbrev pub Closing : ℕ → ℕ → List ℕ → List ℕ → Type 0
Closing at i old new = Filled (next_of old) at i old new

-- the four arrays
pub record Closings (at i : ℕ) (old new : Table) : Type 0 where
  pub of_tickets : Closing at i old.tickets new.tickets
  pub of_parents : Closing at i old.parents new.parents
  pub of_keys : Closing at i old.keys new.keys
  pub of_nodes : Closing at i old.nodes new.nodes

-- zeros alone, and none of them counted
pub record Nothing (t : Table) : Type 0 where
  pub tickets_table : Padded t.tickets t.used
  pub parents_table : Padded t.parents t.used
  pub keys_table : Padded t.keys t.used
  pub nodes_table : Padded t.nodes t.used
  pub none_open : t.used ≡ 0
