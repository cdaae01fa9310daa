-- What document 01, "Plan bytes", asks of a plan's records, as statements about the whole plan: no reading order and no lookups. The checks on
-- one record after another decide it. Assumes nothing.
use Rattle.std.specs.Prelude.{ℕ, ◌≤◌, ◌<◌, ◌≡◌}
use mathlib.Core.List.{List, [], ◌∷◌, Memᴰ}
use Rattle.ids.specs.Limits.{sites, most_threads, nodes, most_edges}
use Rattle.model.specs.Plan.{Record, site, node, edge, edges, Levels, first_fault}

-- Order

-- the kind
abbrev pub kind : Record → ℕ
kind (site s t) = 1
kind (node n s l) = 2
kind (edge c d) = 3

-- "the site number, the node number", or the calling node
abbrev pub number : Record → ℕ
number (site s t) = s
number (node n s l) = n
number (edge c d) = c

abbrev pub called : Record → ℕ
called (site s t) = 0
called (node n s l) = 0
called (edge c d) = d

-- "Kinds never fall. Within a kind the site number, the node number, or the pair (calling, called) strictly rises": from q to r
pub data Rises (q r : Record) : Type 0 where
  by_kind : kind q < kind r → Rises q r
  by_number : kind q ≡ kind r → number q < number r → Rises q r
  by_called : kind q ≡ kind r → number q ≡ number r → called q < called r → Rises q r

-- from each record to each later one
abbrev pub Rising : List Record → Type 0
Rising [] = Unit {0}
Rising (r ∷ rs) = Rising rs × ((q : Record) → Memᴰ q rs → Rises q r)

-- The records

-- a node has a record
abbrev pub Listed : List Record → ℕ → Type 0
Listed rs n = (s : ℕ) × (l : ℕ) × Memᴰ (node n s l) rs

-- checks 3, 4, 5 and 9; what is asked of the levels stands apart
pub record RecordsOk (rs : List Record) : Type 0 where
  -- 3
  pub rising : Rising rs
  -- 4
  pub site_range : (s t : ℕ) → Memᴰ (site s t) rs → (s < sites) × (0 < t) × (t ≤ most_threads)
  pub node_range : (n s l : ℕ) → Memᴰ (node n s l) rs → n < nodes
  -- 5
  pub node_site : (n s l : ℕ) → Memᴰ (node n s l) rs → (t : ℕ) × Memᴰ (site s t) rs
  pub edge_nodes : (c d : ℕ) → Memᴰ (edge c d) rs → Listed rs c × Listed rs d
  -- 9
  pub edge_count : edges rs ≤ most_edges

-- The levels

-- 6
abbrev pub LevelsBelow : List Record → Type 0
LevelsBelow rs = (n s l t : ℕ) → Memᴰ (node n s l) rs → Memᴰ (site s t) rs → l < t

-- whatever tests a plan has for them, each passes behind the records before
abbrev pub LevelsPass : Levels → List Record → Type 0
LevelsPass levels [] = Unit {0}
LevelsPass levels (r ∷ rs) = LevelsPass levels rs × (first_fault (levels.tests rs r) ≡ 0)
