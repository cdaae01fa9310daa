-- House records: document 01, "Plan bytes", first sentence. A table of kinds says how many bytes the body of a kind has.
-- Assumes nothing.
use Rattle.std.specs.Prelude.{ℕ, Bool, true, false, List, [], ◌∷◌, length, take, drop, leb}
use Rattle.std.proofs.Math.Option.{Option, none, some}

-- the length of the body of each kind, or none for a kind that is unknown
abbrev pub Kinds : Type 0
Kinds = ℕ → Option ℕ

-- what stands where a record is due
pub data Next : Type 0 where
  -- "the input ends where a kind byte .. is due"
  lacking : Next
  unknown : Next
  -- "or a body byte is due"
  cut : Next
  -- the kind, the body and what follows
  whole : ℕ → List ℕ → List ℕ → Next

abbrev pub body_of : Bool → ℕ → ℕ → List ℕ → Next
body_of true kind size bytes = whole kind (take size bytes) (drop size bytes)
body_of false kind size bytes = cut

abbrev pub of_kind : Option ℕ → ℕ → List ℕ → Next
of_kind none kind bytes = unknown
of_kind (some size) kind bytes = body_of (leb size (length bytes)) kind size bytes

-- "one byte of kind, then a body whose length the kind fixes"
unfoldable pub next : Kinds → List ℕ → Next
next kinds [] = lacking
next kinds (kind ∷ bytes) = of_kind (kinds kind) kind bytes
