-- What the site book answers, told as document 01 numbers it: the refusal's number, or 0 where nothing is refused, and then the values.
-- Assumes nothing.
use Rattle.std.specs.Prelude.{ℕ, suc, ◌||◌, cond, List, [], ◌∷◌, leb, Option, Some, None, Result, Ok, Err}
use Rattle.ids.specs.Made.{Told}
use Rattle.model.specs.Site.{refuses_site, limit, may_admit, blocking, room}
use Rattle.model.specs.Tree.{from_root}
use Rattle.ids.specs.declared.Level.{Level}
use Rattle.model.specs.declared.Highest.{Highest}
use Rattle.model.specs.declared.SiteRefused.{SiteRefused}
use Rattle.model.specs.declared.Admission.{Admission}
use Rattle.model.specs.declared.RoomRefused.{RoomRefused}

-- the firmware's refusal of a site
abbrev pub site_refusal : Told
site_refusal = 255 ∷ []

-- refusal 30: "room asked .. of a level not below its threads"
abbrev pub level_refusal : Told
level_refusal = 30 ∷ []

-- a level plus 1, or 0 for "none"
abbrev pub level_number : Option Level → ℕ
level_number (Some level) = suc level.0
level_number None = 0

-- the level's number, and the tree nodes stood on; "a refusal, with no level and no count"
abbrev pub told_level : Result Highest SiteRefused → Told
told_level (Ok highest) = 0 ∷ level_number highest.level ∷ highest.stood ∷ []
told_level (Err why) = site_refusal

-- 1 where the level may be admitted; 0 and the level in the way where it waits
abbrev pub told_admission : Result Admission SiteRefused → Told
told_admission (Ok Admission.Admitted) = 0 ∷ 1 ∷ []
told_admission (Ok (Admission.Waits level)) = 0 ∷ 0 ∷ level.0 ∷ []
told_admission (Err why) = site_refusal

abbrev pub told_room : Result ℕ RoomRefused → Told
told_room (Ok n) = 0 ∷ n ∷ []
told_room (Err RoomRefused.NoSuchLevel) = level_refusal
told_room (Err RoomRefused.Site) = site_refusal

-- the highest admissible level, by its definition, and the tree nodes that the walk stood on
unfoldable pub level_answer : ℕ → List ℕ → Told
level_answer T a = cond (refuses_site T a) site_refusal (0 ∷ limit T a ∷ (from_root T a).stood ∷ [])

-- "for admission also when i is not below T"; 02, 1/14: "The admission answer shall name, for a level that may not be admitted, the highest full level at or
-- below it"
unfoldable pub admission_answer : ℕ → List ℕ → ℕ → Told
admission_answer T a i =
    cond (refuses_site T a || leb T i) site_refusal (0 ∷ cond (may_admit T a i) (1 ∷ []) (0 ∷ blocking T a i ∷ []))

-- the site is looked at first
unfoldable pub room_answer : ℕ → List ℕ → ℕ → Told
room_answer T a k = cond (refuses_site T a) site_refusal (cond (leb T k) level_refusal (0 ∷ room T a k ∷ []))

-- "It gets the level plus 1, 0 for none, or 255 as a refusal"
unfoldable pub firmware : ℕ → List ℕ → ℕ
firmware T a = cond (refuses_site T a) 255 (limit T a)
