-- Plans as records and their checks: document 01, "Plan bytes". A plan is the list of its records, the latest first, so that what stands
-- behind a record is what was read before it. Assumes nothing.
use Rattle.std.specs.Prelude.{ℕ, ◌≡◌, refl, Bool, true, false, not, ◌&&◌, ◌||◌, cond, List, [], ◌∷◌, ◌++◌, ltb, leb, eqb, length}
use Rattle.std.proofs.Math.Option.{Option, none, some}
use Rattle.ids.specs.Limits.{sites, most_threads, nodes, most_edges}
use Rattle.model.specs.Graph.{either, via}
use Rattle.model.specs.House.{Kinds}

pub data Record : Type 0 where
  -- site, threads
  site : ℕ → ℕ → Record
  -- node, site, level
  node : ℕ → ℕ → ℕ → Record
  -- calling node, called node
  edge : ℕ → ℕ → Record

-- The records of one kind, the latest first

-- a node's site and level
pub record Place : Type 0 where
  pub at : ℕ
  pub level : ℕ

-- a site and its threads
abbrev pub as_site : Record → Option (ℕ × ℕ)
as_site (site s t) = some (s, t)
as_site (node n s l) = none
as_site (edge c d) = none

-- a node and where it stands
abbrev pub as_node : Record → Option (ℕ × Place)
as_node (site s t) = none
as_node (node n s l) = some (n, record { at = s; level = l })
as_node (edge c d) = none

-- the calling node and the called one
abbrev pub as_edge : Record → Option (ℕ × ℕ)
as_edge (site s t) = none
as_edge (node n s l) = none
as_edge (edge c d) = some (c, d)

abbrev pub push : {X : Type 0} → Option X → List X → List X
push none xs = xs
push (some x) xs = x ∷ xs

abbrev pub chosen : {X : Type 0} → (Record → Option X) → List Record → List X
chosen how [] = []
chosen how (r ∷ rs) = push (how r) (chosen how rs)

abbrev pub sites_of : List Record → List (ℕ × ℕ)
sites_of rs = chosen as_site rs

abbrev pub nodes_of : List Record → List (ℕ × Place)
nodes_of rs = chosen as_node rs

abbrev pub edges_of : List Record → List (ℕ × ℕ)
edges_of rs = chosen as_edge rs

-- What the records before say

-- what stands under a number
abbrev pub entry : {X : Type 0} → List (ℕ × X) → ℕ → Option X
entry [] n = none
entry (e ∷ es) n = cond (eqb e.0 n) (some e.1) (entry es n)

abbrev pub or_zero : Option ℕ → ℕ
or_zero none = 0
or_zero (some n) = n

-- the threads of a site, 0 where it has no record
unfoldable pub threads : List Record → ℕ → ℕ
threads rs s = or_zero (entry (sites_of rs) s)

-- a node's site and level, where it has a record
unfoldable pub place : List Record → ℕ → Option Place
place rs n = entry (nodes_of rs) n

abbrev pub present : Option Place → Bool
present none = false
present (some p) = true

abbrev pub among : List (ℕ × ℕ) → ℕ → ℕ → Bool
among [] c d = false
among (e ∷ es) c d = (eqb e.0 c && eqb e.1 d) || among es c d

-- the call edge from c to d has a record
unfoldable pub has_edge : List Record → ℕ → ℕ → Bool
has_edge rs c d = among (edges_of rs) c d

unfoldable pub edges : List Record → ℕ
edges rs = length (edges_of rs)

-- The checks on one record

-- "Kinds never fall. Within a kind the site number, the node number, or the pair (calling, called) strictly rises"
unfoldable pub follows : List Record → Record → Bool
follows [] r = true
follows (site r t ∷ rs) (site s u) = ltb r s
follows (site r t ∷ rs) (node n s l) = true
follows (site r t ∷ rs) (edge c d) = true
follows (node n s l ∷ rs) (site r t) = false
follows (node n s l ∷ rs) (node m r k) = ltb n m
follows (node n s l ∷ rs) (edge c d) = true
follows (edge c d ∷ rs) (site r t) = false
follows (edge c d ∷ rs) (node n s l) = false
follows (edge c d ∷ rs) (edge e f) = ltb c e || (eqb c e && ltb d f)

-- not "site record: site above 15, or threads 0 or above 64; node record: node above 63"
unfoldable pub in_range : Record → Bool
in_range (site r t) = ltb r sites && (ltb 0 t && leb t most_threads)
in_range (node n s l) = ltb n nodes
in_range (edge c d) = true

-- not "a node names a site, or an edge names a node, that has no record"
unfoldable pub known : List Record → Record → Bool
known rs (site r t) = true
known rs (node n s l) = not (eqb (threads rs s) 0)
known rs (edge c d) = present (place rs c) && present (place rs d)

-- not "the level is not below its site's threads"
unfoldable pub level_below : List Record → Record → Bool
level_below rs (site r t) = true
level_below rs (node n s l) = ltb l (threads rs s)
level_below rs (edge c d) = true

-- not "this is the 257th edge"
unfoldable pub room_for : List Record → Record → Bool
room_for rs (site r t) = true
room_for rs (node n s l) = true
room_for rs (edge c d) = ltb (edges rs) most_edges

-- each test has a number, and 0 is none
abbrev pub numbered : List (Bool × ℕ) → Bool
numbered [] = true
numbered (t ∷ ts) = not (eqb t.1 0) && numbered ts

-- the tests of a record's level, in order, each with the number that it gives where it fails
pub record Levels : Type 0 where
  pub tests : List Record → Record → List (Bool × ℕ)
  pub all_numbered : (rs : List Record) (r : Record) → numbered (tests rs r) ≡ true

-- a plan is read with check 6 alone
abbrev pub six : Levels
six = record { tests = λ rs r. (level_below rs r, 6) ∷ []; all_numbered = λ rs r. refl }

-- the number of the first test that fails, 0 where all pass
abbrev pub first_fault : List (Bool × ℕ) → ℕ
first_fault [] = 0
first_fault (t ∷ ts) = cond t.0 (first_fault ts) t.1

-- "Checks on one record, in order": 3, 4, 5, 6, 9 (2 and 1 come before a record can be read at all)
unfoldable pub record_fault : Levels → List Record → Record → ℕ
record_fault levels rs r =
    first_fault (((follows rs r, 3) ∷ (in_range r, 4) ∷ (known rs r, 5) ∷ []) ++ levels.tests rs r ++ ((room_for rs r, 9) ∷ []))

-- each record passes the checks after those before it
unfoldable pub passes : Levels → List Record → Bool
passes levels [] = true
passes levels (r ∷ rs) = passes levels rs && eqb (record_fault levels rs r) 0

-- The checks on the whole plan

-- "may also step between nodes of one site from level a to level b if a is at least b"
abbrev pub descends : Option Place → Option Place → Bool
descends none q = false
descends (some p) none = false
descends (some p) (some q) = eqb p.at q.at && leb q.level p.level

unfoldable pub site_steps : List Record → ℕ → ℕ → Bool
site_steps rs n m = descends (place rs n) (place rs m)

abbrev pub no_steps : ℕ → ℕ → Bool
no_steps n m = false

abbrev pub numbers : {X : Type 0} → List (ℕ × X) → List ℕ
numbers [] = []
numbers (e ∷ es) = e.0 ∷ numbers es

-- the nodes that have a record
unfoldable pub listed : List Record → List ℕ
listed rs = numbers (nodes_of rs)

abbrev pub some_backwards : (ℕ → ℕ → Bool) → List ℕ → List (ℕ × ℕ) → Bool
some_backwards step ns [] = false
some_backwards step ns (e ∷ es) = via step ns e.1 e.0 || some_backwards step ns es

-- some edge is closed backwards: from the called node a path of these steps leads to the calling one
unfoldable pub closed_backwards : (ℕ → ℕ → Bool) → List ℕ → List Record → Bool
closed_backwards step ns rs = some_backwards step ns (edges_of rs)

-- check 7, "the call edges have a loop", and check 8, "some node depends on itself": decided over the plan's own nodes
unfoldable pub loops : List Record → Bool
loops rs = closed_backwards (either (has_edge rs) no_steps) (listed rs) rs

unfoldable pub self_depends : List Record → Bool
self_depends rs = closed_backwards (either (has_edge rs) (site_steps rs)) (listed rs) rs

-- "When the end record is reached, 7, then 8"
unfoldable pub end_fault : List Record → ℕ
end_fault rs = first_fault ((not (loops rs), 7) ∷ (not (self_depends rs), 8) ∷ [])

-- Bytes

-- the table of kinds: 1 site, 2 node, 3 edge, 4 end
abbrev pub plan_kinds : Kinds
plan_kinds kind =
    cond (eqb kind 1) (some 2) (cond (eqb kind 2) (some 3) (cond (eqb kind 3) (some 2) (cond (eqb kind 4) (some 0) none)))

unfoldable pub bytes_of : Record → List ℕ
bytes_of (site r t) = 1 ∷ r ∷ t ∷ []
bytes_of (node n s l) = 2 ∷ n ∷ s ∷ l ∷ []
bytes_of (edge c d) = 3 ∷ c ∷ d ∷ []

-- the records' bytes, the earliest first
unfoldable pub records_bytes : List Record → List ℕ
records_bytes [] = []
records_bytes (r ∷ rs) = records_bytes rs ++ bytes_of r

-- "The end record closes the plan"
unfoldable pub encode : List Record → List ℕ
encode rs = records_bytes rs ++ (4 ∷ [])
