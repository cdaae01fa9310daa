-- What the counts of active calls and the rooms in arrays say of the net that the arrays hold. For the contracts of `tally`. Assumes nothing.
use Rattle.std.specs.Prelude.{ℕ, ◌+◌, ◌-◌, ◌*◌, ◌≤◌, ◌<◌, ◌≡◌, Bool, true, false, length, get_or, Option, Some, None}
use mathlib.Core.List.{List, [], ◌∷◌, ◌++◌, Memᴰ}
use Rattle.ids.specs.Limits.{sites, most_threads, nodes, most_open}
use Rattle.lists.specs.Fill.{Filled}
use Rattle.model.specs.Site.{A, lawful}
use Rattle.model.specs.Plan.{Record, threads, six, passes}
use Rattle.model.specs.Net.{Call, has_node, site_of, level_of, counts}
use Rattle.model.specs.NetRules.{book_kept, all_lawful}
use Rattle.value.specs.View.{row_of}
use Rattle.rooms.specs.declared.Rooms.{Rooms}
use Rattle.moves.specs.Held.{Tells, node_number, key_of, RoomsTell}

-- the lent sites and levels of the nodes
pub record Placing (rs : List Record) (places levels : List ℕ) : Type 0 where
  pub pass : passes six rs ≡ true
  pub places_whole : length places ≡ nodes
  pub levels_whole : length levels ≡ nodes
  pub nodes_inside : (n : ℕ) → has_node rs n ≡ true → n < nodes
  pub places_are : (n : ℕ) → has_node rs n ≡ true → get_or places n 0 ≡ site_of rs n
  pub levels_are : (n : ℕ) → has_node rs n ≡ true → get_or levels n 0 ≡ level_of rs n

-- an array holds the counts of each site and level
pub record CountsTell (rs : List Record) (cs : List Call) (numbers : List ℕ) : Type 0 where
  pub whole : length numbers ≡ sites * most_threads
  pub each : (s k : ℕ) → s < sites → k < most_threads → get_or numbers (most_threads * s + k) 0 ≡ get_or (counts rs cs s) k 0

-- no call is counted
pub record Zeroed (numbers : List ℕ) : Type 0 where
  pub whole : length numbers ≡ sites * most_threads
  pub zeros : (i : ℕ) → get_or numbers i 0 ≡ 0

-- a count that no byte holds
pub record TooMany (rs : List Record) (cs : List Call) : Type 0 where
  pub site : ℕ
  pub level : ℕ
  pub site_inside : site < sites
  pub level_inside : level < most_threads
  pub many : 255 < get_or (counts rs cs site) level 0

-- One call more

-- a call behind others, by its key and its node
pub record Behind (rs : List Record) (cs : List Call) (c : Call) (key node : ℕ) (places levels numbers : List ℕ) : Type 0 where
  pub placing : Placing rs places levels
  pub told : CountsTell rs cs numbers
  pub key_is : key ≡ key_of rs c
  pub node_is : node ≡ c.node
  pub known : has_node rs c.node ≡ true

abbrev pub Raisable : ℕ → ℕ → List ℕ → List ℕ → List ℕ → Type 0
Raisable key node places levels numbers = (rs : List Record) × (cs : List Call) × (c : Call) × Behind rs cs c key node places levels numbers

-- counted, or too many
abbrev pub CountTold : List Record → List Call → Option (List ℕ) → Type 0
CountTold rs cs (Some numbers) = CountsTell rs cs numbers
CountTold rs cs None = TooMany rs cs

-- what stands in an array after a change, or none where the change was refused
abbrev pub left_in : List ℕ → Option Unit → Option (List ℕ)
left_in new (Some done) = Some new
left_in new None = None

abbrev pub Raises : ℕ → ℕ → List ℕ → List ℕ → List ℕ → List ℕ → Option Unit → Type 0
Raises key node places levels old new r =
    (length new ≡ length old)
    × ((rs : List Record) (cs : List Call) (c : Call) → Behind rs cs c key node places levels old → CountTold rs (cs ++ (c ∷ [])) (left_in new r))

-- All calls

pub record Counting (rs : List Record) (cs : List Call) (keys open-nodes : List ℕ) (used : ℕ) (places levels : List ℕ) : Type 0 where
  pub placing : Placing rs places levels
  pub of_keys : Tells (key_of rs) cs keys
  pub of_nodes : Tells node_number cs open-nodes
  pub count : used ≡ length cs
  pub few : length cs ≤ most_open
  pub known : (c : Call) → Memᴰ c cs → has_node rs c.node ≡ true

abbrev pub Countable : List ℕ → List ℕ → ℕ → List ℕ → List ℕ → Type 0
Countable keys open-nodes used places levels = (rs : List Record) × (cs : List Call) × Counting rs cs keys open-nodes used places levels

abbrev pub Counts : List ℕ → List ℕ → ℕ → List ℕ → List ℕ → Option (List ℕ) → Type 0
Counts keys open-nodes used places levels r = (rs : List Record) (cs : List Call) → Counting rs cs keys open-nodes used places levels → CountTold rs cs r

-- "each site's counts are those of its active calls"

abbrev pub KeptTested : List ℕ → List ℕ → ℕ → List ℕ → List ℕ → Type 0
KeptTested keys open-nodes used places levels = (rs : List Record) × (cs : List Call) × Counting rs cs keys open-nodes used places levels

abbrev pub KeptTest : List ℕ → List ℕ → List ℕ → ℕ → List ℕ → List ℕ → Bool → Type 0
KeptTest numbers keys open-nodes used places levels r =
    (rs : List Record) (cs : List Call) → Counting rs cs keys open-nodes used places levels
    → (r ≡ book_kept (record { plan = rs; calls = cs }) (row_of numbers)) × (r ≡ true → CountsTell rs cs numbers)

-- The rooms of a site

-- its counts, none at or above its threads
pub record SiteCounted (numbers : List ℕ) (base most : ℕ) (a : List ℕ) : Type 0 where
  pub each : (k : ℕ) → k < most_threads → get_or numbers (base + k) 0 ≡ get_or a k 0
  pub none_above : A a most ≡ 0

pub record SiteRoomable (numbers : List ℕ) (base most : ℕ) (rooms : List ℕ) : Type 0 where
  pub inside : base + most_threads ≤ length numbers
  pub rooms_inside : base + most_threads ≤ length rooms
  pub threads_most : most ≤ most_threads

-- the room of a level whose place is n
unfoldable pub room_from : ℕ → List ℕ → ℕ → ℕ → ℕ
room_from most a base n = most - (n - base) - A a (n - base)

-- the rooms of a lawful site, or none where it is not
abbrev pub SiteRoomed : ℕ → List ℕ → ℕ → List ℕ → Option (List ℕ) → Type 0
SiteRoomed most a base old (Some new) = (true ≡ lawful most a) × Filled (room_from most a base) base (base + most) old new
SiteRoomed most a base old None = false ≡ lawful most a

abbrev pub SiteRooms : List ℕ → ℕ → ℕ → List ℕ → List ℕ → Option Unit → Type 0
SiteRooms numbers base most old new r =
    (length new ≡ length old) × ((a : List ℕ) → SiteCounted numbers base most a → SiteRoomed most a base old (left_in new r))

-- The rooms of all sites

pub record CanRoom (rs : List Record) (cs : List Call) (numbers most-of : List ℕ) : Type 0 where
  pub pass : passes six rs ≡ true
  pub known : (c : Call) → Memᴰ c cs → has_node rs c.node ≡ true
  pub told : CountsTell rs cs numbers
  pub threads_whole : length most-of ≡ sites
  pub threads_are : (s : ℕ) → s < sites → get_or most-of s 0 ≡ threads rs s

abbrev pub Roomable : List ℕ → List ℕ → Type 0
Roomable numbers most-of = (rs : List Record) × (cs : List Call) × CanRoom rs cs numbers most-of

-- the rooms of lawful sites, or none where a site is not lawful
abbrev pub RoomsTold : List Record → List Call → Rooms → Option Unit → Type 0
RoomsTold rs cs rooms (Some done) = (true ≡ all_lawful (record { plan = rs; calls = cs })) × RoomsTell rs (counts rs cs) rooms.left
RoomsTold rs cs rooms None = false ≡ all_lawful (record { plan = rs; calls = cs })

abbrev pub RoomsOf : List ℕ → List ℕ → Rooms → Option Unit → Type 0
RoomsOf numbers most-of rooms r = (rs : List Record) (cs : List Call) → CanRoom rs cs numbers most-of → RoomsTold rs cs rooms r
