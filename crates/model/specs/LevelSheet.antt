-- The level sheet of document 01: its cases marked P, in one table. Assumes nothing.
use Rattle.std.specs.Prelude.{ℕ, zero, suc, ◌≡◌, List, [], ◌∷◌, ◌++◌, replicate}
use Rattle.ids.specs.Limits.{most_threads}
use Rattle.model.specs.Site.{put, room}
use Rattle.model.specs.Answers.{firmware, admission_answer}
use Rattle.model.specs.Reading.{read}
use Rattle.model.specs.PlanValue.{reading_told}

-- a line of the sheet
pub data Case : Type 0 where
  -- threads, the levels of the active calls, and the firmware's number: the highest admissible level plus 1, or 0 for none
  site : ℕ → List ℕ → ℕ → Case
  -- threads, the levels of the active calls, the level of one more that waits, and the level in its way
  waits : ℕ → List ℕ → ℕ → ℕ → Case
  -- threads, the levels of the active calls, and the room of each level from 0 on
  rooms : ℕ → List ℕ → List ℕ → Case
  -- plan bytes, and what the reading tells: 0 and the bytes used, or the refusal and its offset
  plan : List ℕ → ℕ → ℕ → Case

-- the count of each level where these calls are active
abbrev pub counts_of : List ℕ → List ℕ
counts_of active = put (replicate most_threads 0) active

-- the rooms of so many levels from k on
abbrev pub rooms_of : ℕ → List ℕ → ℕ → ℕ → List ℕ
rooms_of T a zero k = []
rooms_of T a (suc n) k = room T a k ∷ rooms_of T a n (suc k)

-- what a line says of the definitions
abbrev pub Holds : Case → Type 0
Holds (site threads active number) = firmware threads (counts_of active) ≡ number
Holds (waits threads active asked blocked_by) = admission_answer threads (counts_of active) asked ≡ 0 ∷ 0 ∷ blocked_by ∷ []
Holds (rooms threads active all) = rooms_of threads (counts_of active) threads 0 ≡ all
Holds (plan bytes number place) = reading_told (read bytes) ≡ number ∷ place ∷ []

-- two sites of 2 threads; nodes 0 at site 0, 1 and 2 at site 1, 3 at site 0; edges 0 to 1 and 2 to 3; all levels 0 but that of node 2
abbrev pub two_sites : ℕ → List ℕ
two_sites level =
    (1 ∷ 0 ∷ 2 ∷ [])
    ++ (1 ∷ 1 ∷ 2 ∷ [])
    ++ (2 ∷ 0 ∷ 0 ∷ 0 ∷ [])
    ++ (2 ∷ 1 ∷ 1 ∷ 0 ∷ [])
    ++ (2 ∷ 2 ∷ 1 ∷ level ∷ [])
    ++ (2 ∷ 3 ∷ 0 ∷ 0 ∷ [])
    ++ (3 ∷ 0 ∷ 1 ∷ [])
    ++ (3 ∷ 2 ∷ 3 ∷ [])
    ++ (4 ∷ [])

abbrev pub table : List Case
table =
    -- T = 10, active 1 2 3 4 4 4 5 6 9: highest admissible 0
    site 10 (1 ∷ 2 ∷ 3 ∷ 4 ∷ 4 ∷ 4 ∷ 5 ∷ 6 ∷ 9 ∷ []) 1
    -- 02, 1/14: of these levels 5 to 8 are blocked by 4, 9 by 9 and 2 by 2
    ∷ waits 10 (1 ∷ 2 ∷ 3 ∷ 4 ∷ 4 ∷ 4 ∷ 5 ∷ 6 ∷ 9 ∷ []) 5 4
    ∷ waits 10 (1 ∷ 2 ∷ 3 ∷ 4 ∷ 4 ∷ 4 ∷ 5 ∷ 6 ∷ 9 ∷ []) 8 4
    ∷ waits 10 (1 ∷ 2 ∷ 3 ∷ 4 ∷ 4 ∷ 4 ∷ 5 ∷ 6 ∷ 9 ∷ []) 9 9
    ∷ waits 10 (1 ∷ 2 ∷ 3 ∷ 4 ∷ 4 ∷ 4 ∷ 5 ∷ 6 ∷ 9 ∷ []) 2 2
    -- less the 3: 3
    ∷ site 10 (1 ∷ 2 ∷ 4 ∷ 4 ∷ 4 ∷ 5 ∷ 6 ∷ 9 ∷ []) 4
    -- less a 4 as well: 8
    ∷ site 10 (1 ∷ 2 ∷ 4 ∷ 4 ∷ 5 ∷ 6 ∷ 9 ∷ []) 9
    -- 02, 3/14: the rooms of both
    ∷ rooms 10 (1 ∷ 2 ∷ 4 ∷ 4 ∷ 4 ∷ 5 ∷ 6 ∷ 9 ∷ []) (2 ∷ 1 ∷ 1 ∷ 1 ∷ 0 ∷ 0 ∷ 0 ∷ 0 ∷ 0 ∷ 0 ∷ [])
    ∷ rooms 10 (1 ∷ 2 ∷ 4 ∷ 4 ∷ 5 ∷ 6 ∷ 9 ∷ []) (3 ∷ 2 ∷ 2 ∷ 2 ∷ 1 ∷ 1 ∷ 1 ∷ 1 ∷ 1 ∷ 0 ∷ [])
    -- T = 3, active 1 1: highest 0, so level 2 waits
    ∷ site 3 (1 ∷ 1 ∷ []) 1
    ∷ waits 3 (1 ∷ 1 ∷ []) 2 1
    -- and the status page says so: no more call of level 2 goes in
    ∷ rooms 3 (1 ∷ 1 ∷ []) (1 ∷ 0 ∷ 0 ∷ [])
    -- T = 1, none active: 0
    ∷ site 1 [] 1
    -- T = 1, active 0: none
    ∷ site 1 (0 ∷ []) 0
    -- T = 64, none active: 63
    ∷ site 64 [] 64
    -- all levels 0: refused, 8 at offset 28
    ∷ plan (two_sites 0) 8 28
    -- node 2 at level 1: accepted
    ∷ plan (two_sites 1) 0 29
    -- the empty input: 1 at offset 0
    ∷ plan [] 1 0
    ∷ []
