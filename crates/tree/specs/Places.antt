-- The tree of counts as it stands in two arrays, for the contracts of `tree`. Assumes nothing.
use Rattle.std.specs.Prelude.{ℕ, zero, suc, ◌+◌, ◌-◌, ◌*◌, ◌^◌, ◌≤◌, ◌<◌, min, ◌≡◌, cond, List, length, get_or, replicate, ltb, eqb}
use Rattle.ids.specs.Limits.{most_threads}
use Rattle.model.specs.Site.{A}
use Rattle.model.specs.Tree.{size, onward, root_height}
use Rattle.model.specs.declared.Walked.{Walked}

-- the places of a tree over all levels: the root at 1, the leaf of level k at most_threads + k
abbrev pub places : ℕ
places = 128

-- how "no limit" is stored, and how a slack of 0
abbrev pub unlimited : ℕ
unlimited = 255

abbrev pub no_slack : ℕ
no_slack = 64

-- what a tree is built from: the numbers are in range, no call stands at or above T, and there are no more calls than threads
pub record TreeCounts (T : ℕ) (a : List ℕ) : Type 0 where
  pub some : 0 < T
  pub most : T ≤ most_threads
  pub long : length a ≡ most_threads
  pub within : A a T ≡ 0
  pub few : A a 0 ≤ T

-- a part of the levels
pub record Span (a : List ℕ) (from to : ℕ) : Type 0 where
  pub rising : from ≤ to
  pub inside : to ≤ most_threads
  pub long : length a ≡ most_threads

-- the arrays before the tree is built
pub record Fresh (sizes slacks : List ℕ) : Type 0 where
  pub no_size : sizes ≡ replicate places 0
  pub no_limits : slacks ≡ replicate places unlimited

-- what is stored as the slack of a tree node, where it may fall below 0
unfoldable pub slack_byte : ℕ → List ℕ → ℕ → ℕ → ℕ
slack_byte T a zero k = cond (ltb k T) (no_slack + T - k - get_or a k 0) unlimited
slack_byte T a (suc h) k = min (slack_byte T a h (k + 2 ^ h)) (slack_byte T a h k - size a h (k + 2 ^ h))

-- the first level that place n of height h covers
abbrev pub first_level : ℕ → ℕ → ℕ
first_level h n = n * 2 ^ h - most_threads

-- an array that holds the number of each tree node up to a height
abbrev pub NodesStand : ℕ → (ℕ → ℕ → ℕ) → List ℕ → Type 0
NodesStand most number cells =
    (h n : ℕ) → h ≤ most → most_threads ≤ n * 2 ^ h → (n + 1) * 2 ^ h ≤ places → get_or cells n 0 ≡ number h (first_level h n)

-- the tree nodes up to a height stand in the arrays
pub record Built (most T : ℕ) (a sizes slacks : List ℕ) : Type 0 where
  pub size_at : NodesStand most (size a) sizes
  pub slack_at : NodesStand most (slack_byte T a) slacks

-- what the leaf at place n holds
abbrev pub leaf_size : List ℕ → ℕ → ℕ
leaf_size a n = get_or a (n - most_threads) 0

abbrev pub leaf_slack : ℕ → List ℕ → ℕ → ℕ
leaf_slack T a n = no_slack + T - (n - most_threads) - get_or a (n - most_threads) 0

-- what place n holds, made from its halves
abbrev pub pair_size : List ℕ → ℕ → ℕ
pair_size sizes n = get_or sizes (2 * n) 0 + get_or sizes (2 * n + 1) 0

abbrev pub pair_slack : List ℕ → List ℕ → ℕ → ℕ
pair_slack sizes slacks n = min (get_or slacks (2 * n + 1) 0) (get_or slacks (2 * n) 0 - get_or sizes (2 * n + 1) 0)

-- a row of places that can be made: the halves of each have sizes that add up within a byte, and the left slack covers the right size
pub record RowJoinable (sizes slacks : List ℕ) (first end : ℕ) : Type 0 where
  pub rising : first ≤ end
  pub inside : end ≤ most_threads
  pub small : (n : ℕ) → first ≤ n → n < end → pair_size sizes n < 256
  pub covered : (n : ℕ) → first ≤ n → n < end → get_or sizes (2 * n + 1) 0 ≤ get_or slacks (2 * n) 0

-- a place to walk on from, and no more calls to its right than a walk can carry
pub record Walkable (sizes slacks : List ℕ) (height n carried : ℕ) : Type 0 where
  pub high : height ≤ root_height
  pub from : most_threads ≤ n * 2 ^ height
  pub to : (n + 1) * 2 ^ height ≤ places
  pub light : carried + 255 * height ≤ 65535

-- the walk over the arrays
abbrev pub walk_in : List ℕ → List ℕ → ℕ → ℕ → ℕ → Walked
walk_in sizes slacks zero n carried = record { leaf = n - most_threads; stood = 1 }
walk_in sizes slacks (suc h) n carried =
    cond (eqb (get_or slacks (2 * n) 0) (no_slack + (get_or sizes (2 * n + 1) 0 + carried)))
    (onward (walk_in sizes slacks h (2 * n) (get_or sizes (2 * n + 1) 0 + carried)))
    (onward (walk_in sizes slacks h (2 * n + 1) carried))
