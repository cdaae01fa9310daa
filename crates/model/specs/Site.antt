-- The site book: document 01, "The site book", and section 3.1 of the paper.
-- `T` is the number of threads of the site, and `a` lists its active calls by level: `get_or a k 0` is a[k]. Assumes nothing.
use Rattle.std.specs.Prelude.{ℕ, zero, suc, ◌-◌, ◌≤◌, ◌<◌, ◌≡◌, Bool, true, false, not, ◌&&◌, ◌||◌, cond, List, [], ◌∷◌, length, get_or, drop, set, leb, ltb, eqb}
use Rattle.lists.specs.Count.{sum, every, first, last}
use Rattle.ids.specs.Limits.{most_threads}

-- "A[k] the sum of a[j] for all j at or above k"
unfoldable pub A : List ℕ → ℕ → ℕ
A a k = sum (drop k a)

-- "The site is lawful when A[k] is at most T - k for every k from 0 to T - 1"
unfoldable pub lawful : ℕ → List ℕ → Bool
lawful T a = every T (λ k. leb (A a k) (T - k))

-- "with a[i] one larger"
unfoldable pub raised : List ℕ → ℕ → List ℕ
raised a i = set a i (suc (get_or a i 0))

-- one call more of each listed level
abbrev pub put : List ℕ → List ℕ → List ℕ
put a [] = a
put a (l ∷ ls) = put (raised a l) ls

-- "A call of level i, below T, may be admitted exactly when the site stays lawful with a[i] one larger"
unfoldable pub may_admit : ℕ → List ℕ → ℕ → Bool
may_admit T a i = ltb i T && lawful T (raised a i)

-- "A[k] = T - k (level k is then full)"
unfoldable pub full : ℕ → List ℕ → ℕ → Bool
full T a k = eqb (A a k) (T - k)

-- "The highest admissible level is one less than the lowest k below T with A[k] = T - k (level k is then full), and T - 1 if no level is full."
-- This is that level plus 1, and 0 for "none": how many levels are admissible, and the firmware's number
unfoldable pub limit : ℕ → List ℕ → ℕ
limit T a = first T (full T a)

-- 02, 1/14: "for a level that may not be admitted, the highest full level at or below it"
unfoldable pub blocking : ℕ → List ℕ → ℕ → ℕ
blocking T a i = last (suc i) (full T a)

-- level k is what is in the way of level i: it is that number exactly where i may not be admitted (`blocked_by`, `blocks_only`, of BlockingLaws)
pub record InTheWay (T : ℕ) (a : List ℕ) (i k : ℕ) : Type 0 where
  pub is_full : full T a k ≡ true
  pub at_or_below : k ≤ i
  pub none_between : (j : ℕ) → k < j → j ≤ i → full T a j ≡ false

-- "T - k - A[k]": how far level k is from full. 01 called it the room at level k; 02, 3/14: "Document 01 looks at one level's sum"
unfoldable pub spare : ℕ → List ℕ → ℕ → ℕ
spare T a k = T - k - A a k

-- 02, 3/14: "the number of calls of level k that could be admitted one after another with no return between", of so many at the most
unfoldable pub admitted : ℕ → ℕ → List ℕ → ℕ → ℕ
admitted zero T a k = 0
admitted (suc tries) T a k = cond (may_admit T a k) (suc (admitted tries T (raised a k) k)) 0

-- the room at level k: no more calls than threads can be admitted. "which is the smallest T - j - A[j] over j from 0 to k" (`room-is`, of RoomLaws)
unfoldable pub room : ℕ → List ℕ → ℕ → ℕ
room T a k = admitted T T a k

-- "threads 0 or above 64, length not 64, a count above zero at a level at or above T, or a site that is not lawful"
unfoldable pub refuses_site : ℕ → List ℕ → Bool
refuses_site T a =
    eqb T 0
    || ltb most_threads T
    || not (eqb (length a) most_threads)
    || not (eqb (A a T) 0)
    || not (lawful T a)
