-- What the rooms in an array say, for the contracts of `rooms`. The room of level k of a site stands at `base + k`. Assumes nothing.
use Rattle.std.specs.Prelude.{ℕ, ◌+◌, ◌-◌, ◌*◌, ◌≤◌, ◌<◌, ◌≡◌, Bool, List, length, get_or, eqb}
use Rattle.ids.specs.Limits.{most_threads, sites}
use Rattle.rooms.specs.declared.Rooms.{Rooms}

-- where a site's levels begin
abbrev pub base_of : ℕ → ℕ
base_of site = most_threads * site

-- what stands for a level
abbrev pub room_in : List ℕ → ℕ → ℕ → ℕ
room_in rooms base k = get_or rooms (base + k) 0

-- a level has no room
unfoldable pub no_room : List ℕ → ℕ → ℕ → Bool
no_room rooms base k = eqb (get_or rooms (base + k) 0) 0

-- one room less, or one more
abbrev pub one_less : ℕ → ℕ
one_less n = n - 1

abbrev pub one_more : ℕ → ℕ
one_more n = n + 1

-- a level of a site whose rooms stand in the array
pub record Ranged (rooms : List ℕ) (base level : ℕ) : Type 0 where
  pub inside : base + most_threads ≤ length rooms
  pub level_small : level < most_threads

-- each room up to a level is above 0
pub record Taking (rooms : List ℕ) (base level : ℕ) : Type 0 where
  pub inside : base + most_threads ≤ length rooms
  pub level_small : level < most_threads
  pub some_room : (k : ℕ) → k ≤ level → 0 < get_or rooms (base + k) 0

-- each room up to a level can grow
pub record Giving (rooms : List ℕ) (base level : ℕ) : Type 0 where
  pub inside : base + most_threads ≤ length rooms
  pub level_small : level < most_threads
  pub not_most : (k : ℕ) → k ≤ level → get_or rooms (base + k) 0 < 255

-- no level at or above the threads has no room
pub record Limited (rooms : List ℕ) (base threads : ℕ) : Type 0 where
  pub inside : base + most_threads ≤ length rooms
  pub threads_most : threads ≤ most_threads
  pub unlimited : (k : ℕ) → threads ≤ k → k < most_threads → 0 < get_or rooms (base + k) 0

-- each level has the number that stands for no limit
pub record NoLimit (r : Rooms) : Type 0 where
  pub whole : length r.left ≡ sites * most_threads
  pub each : (i : ℕ) → i < sites * most_threads → get_or r.left i 0 ≡ 255
