-- The tree of counts and the walk down it: document 01, "The site book", third paragraph. A tree node is given by its height above the
-- leaves and its first level: at height h it covers the 2 ^ h levels from k on. Assumes nothing.
use Rattle.std.specs.Prelude.{ℕ, zero, suc, ◌+◌, ◌-◌, ◌^◌, min, Bool, false, cond, List, get_or, ltb, eqb}
use Rattle.model.specs.declared.Walked.{Walked}

-- "Each has a size (active calls in it)"
unfoldable pub size : List ℕ → ℕ → ℕ → ℕ
size a zero k = get_or a k 0
size a (suc h) k = size a h k + size a h (k + 2 ^ h)

-- a slack: a number, or "no limit"
pub data Slack : Type 0 where
  no_limit : Slack
  up_to : ℕ → Slack

-- "No limit less a number stays no limit"
abbrev pub less : Slack → ℕ → Slack
less no_limit n = no_limit
less (up_to s) n = up_to (s - n)

abbrev pub smaller : Slack → Slack → Slack
smaller no_limit t = t
smaller (up_to s) no_limit = up_to s
smaller (up_to s) (up_to t) = up_to (min s t)

-- "for a leaf k below T, T - k - a[k]; for a leaf at or above T, no limit; for a pair, the smaller of the right slack and the left slack less
-- the right size". At a lawful site no difference here would fall below 0 (`exact`, of TreeLaws)
unfoldable pub slack : ℕ → List ℕ → ℕ → ℕ → Slack
slack T a zero k = cond (ltb k T) (up_to (T - k - get_or a k 0)) no_limit
slack T a (suc h) k = smaller (slack T a h (k + 2 ^ h)) (less (slack T a h k) (size a h (k + 2 ^ h)))

-- a slack is the number n
abbrev pub is : Slack → ℕ → Bool
is no_limit n = false
is (up_to s) n = eqb s n

-- the walk from one tree node further up
abbrev pub onward : Walked → Walked
onward w = record { leaf = w.leaf; stood = suc w.stood }

-- "The walk carries the count of calls to the right of the tree node it stands on. It goes left exactly when the left slack less the right
-- size less the carried count is 0, and then adds the right size to what it carries; otherwise it goes right."
unfoldable pub walk : ℕ → List ℕ → ℕ → ℕ → ℕ → Walked
walk T a zero k carried = record { leaf = k; stood = 1 }
walk T a (suc h) k carried =
    cond (is (slack T a h k) (size a h (k + 2 ^ h) + carried))
    (onward (walk T a h k (size a h (k + 2 ^ h) + carried)))
    (onward (walk T a h (k + 2 ^ h) carried))

-- the root covers 64 levels
abbrev pub root_height : ℕ
root_height = 6

-- "1 when the root's slack is above 0": the walk does not leave the root, and no level below T is full; otherwise it goes down to a leaf
unfoldable pub from_root : ℕ → List ℕ → Walked
from_root T a =
    cond (is (slack T a root_height 0) 0) (walk T a root_height 0 0) (record { leaf = T; stood = 1 })
