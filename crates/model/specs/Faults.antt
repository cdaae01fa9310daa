-- The faults of a plan's bytes: document 01, "Plan bytes", its table of numbers. First the number for what stands behind the records read so
-- far, as one decision; then when a number is given, as statements about the bytes. Assumes nothing.
use Rattle.std.specs.Prelude.{ℕ, ◌<◌, ◌≡◌, ◌⊎◌, Bool, true, false, cond, List, [], ◌∷◌, ◌++◌, length, eqb}
use Rattle.std.proofs.Math.Option.{Option, none, some}
use Rattle.model.specs.House.{Next, lacking, unknown, cut, whole, next}
use Rattle.model.specs.Plan.{Record, Levels, record_fault, plan_kinds, bytes_of}
use Rattle.model.specs.Reading.{Ends, decoded}

-- The number, 0 where nothing is amiss

-- a record's own number, or that of the whole plan at the end record
abbrev pub fault_decoded : Levels → Ends → List Record → Option Record → ℕ
fault_decoded levels ends rs none = ends rs
fault_decoded levels ends rs (some r) = record_fault levels rs r

-- "Checks on one record, in order: 2, 1, 3, 4, 5, 6, 9"
abbrev pub fault_next : Levels → Ends → List Record → Next → ℕ
fault_next levels ends rs lacking = 1
fault_next levels ends rs unknown = 2
fault_next levels ends rs cut = 1
fault_next levels ends rs (whole kind body rest) = fault_decoded levels ends rs (decoded kind body)

-- the number for the bytes that stand behind the records rs
unfoldable pub fault_at : Levels → Ends → List Record → List ℕ → ℕ
fault_at levels ends rs tail = fault_next levels ends rs (next plan_kinds tail)

-- When it is given

-- the cases of what stands behind the records rs, each with its number
pub data Fault (levels : Levels) (ends : Ends) (rs : List Record) (tail : List ℕ) (n : ℕ) : Type 0 where
  -- 1, "the input ends where a kind byte .. is due"
  no_kind : tail ≡ [] → n ≡ 1 → Fault levels ends rs tail n
  -- 2, "the kind is not 1 to 4"
  strange_kind : (kind : ℕ) (rest : List ℕ) → tail ≡ kind ∷ rest → (kind < 1) ⊎ (4 < kind) → n ≡ 2 → Fault levels ends rs tail n
  -- 1, "or a body byte is due"
  short_body : (kind size : ℕ) (rest : List ℕ)
      → tail ≡ kind ∷ rest → plan_kinds kind ≡ some size → length rest < size → n ≡ 1 → Fault levels ends rs tail n
  -- 3, 4, 5, 6, 9, or 0
  of_record : (r : Record) (rest : List ℕ) → tail ≡ bytes_of r ++ rest → record_fault levels rs r ≡ n → Fault levels ends rs tail n
  -- 7, 8, or 0
  of_plan : (rest : List ℕ) → tail ≡ 4 ∷ rest → ends rs ≡ n → Fault levels ends rs tail n

-- "The first fault decides": the test with the number n fails and each test before it passes; for 0, each test passes
abbrev pub Given : ℕ → List (Bool × ℕ) → Type 0
Given n [] = 0 ≡ n
Given n (t ∷ ts) = cond (eqb t.1 n) (t.0 ≡ false) ((t.0 ≡ true) × Given n ts)
