-- Writing a plan: request 2/14. "Given a plan, write its records into a lent buffer and answer the length." Assumes nothing.
use Rattle.std.specs.Prelude.{ℕ, ◌+◌, ◌*◌, ◌≤◌, ◌<◌, ◌≡◌, ◌↔◌, cond, List, [], ◌∷◌, ◌++◌, eqb, leb, length, take, drop}
use Rattle.std.proofs.Math.Option.{Option, none, some}
use Rattle.ids.specs.Limits.{sites, nodes, most_edges}
use Rattle.ids.specs.Made.{Told}
use Rattle.model.specs.Plan.{Record, bytes_of, encode, first_fault}
use Rattle.model.specs.Reading.{accepted, read}
use Rattle.model.specs.PlanValue.{value, records_of}
use Rattle.model.specs.PlanFault.{plan_fault}
use Rattle.model.specs.declared.Plan.{Plan}

-- "each plan has one file": the bytes of the records that a plan's value holds, whoever made it, through the end record
unfoldable pub plan_file : Plan → List ℕ
plan_file p = encode (records_of p)

-- "Refusals, in order: 18 as for making a net, then 10, exactly when the buffer is shorter than the plan's length"; 0 where there is none
unfoldable pub write_fault : Plan → ℕ → ℕ
write_fault p size = first_fault ((eqb (plan_fault p) 0, 18) ∷ (leb (length (plan_file p)) size, 10) ∷ [])

-- "answer the length", behind a 0, or the refusal's number
unfoldable pub write_answer : Plan → ℕ → Told
write_answer p size = cond (eqb (write_fault p size) 0) (0 ∷ length (plan_file p) ∷ []) (write_fault p size ∷ [])

-- the whole buffer then: "Bytes past the length are untouched", and "A refusal writes nothing"
unfoldable pub written : Plan → List ℕ → List ℕ
written p buffer = cond (eqb (write_fault p (length buffer)) 0) (plan_file p ++ drop (length (plan_file p)) buffer) buffer

-- the largest file has every site and node and all edges
abbrev pub most_file : ℕ
most_file = 3 * sites + 4 * nodes + 3 * most_edges + 1

-- the bytes that a number adds to a file: its record's, or none
abbrev pub added : Option Record → List ℕ
added none = []
added (some r) = bytes_of r

-- The customer's sentences, each a field
pub record Rewriting : Type 0 where
  -- "Bytes past the length are untouched", refused or not
  pub past_the_length : (p : Plan) (buffer : List ℕ) → drop (length (plan_file p)) (written p buffer) ≡ drop (length (plan_file p)) buffer
  -- "Reading what was written gives the same records and the same length"
  pub reads_back : (p : Plan) (buffer : List ℕ) → write_fault p (length buffer) ≡ 0
      → read (written p buffer) ≡ accepted (records_of p) (length (plan_file p))
  -- "writing what was read gives the same bytes through the end record"
  pub writes_back : (bytes : List ℕ) (rs : List Record) (used : ℕ) → read bytes ≡ accepted rs used → (buffer : List ℕ) → used ≤ length buffer
      → (written (value rs) buffer ≡ take used bytes ++ drop used buffer) × (write_answer (value rs) (length buffer) ≡ 0 ∷ used ∷ [])
  -- "so each plan has one file", and each file one plan
  pub plan_and_file : (a b : List ℕ) (rs qs : List Record) (used also : ℕ) → read a ≡ accepted rs used → read b ≡ accepted qs also
      → (value rs ≡ value qs) ↔ (take used a ≡ take also b)
  -- "A refusal writes nothing"
  pub nothing_written : (p : Plan) (buffer : List ℕ) → (write_fault p (length buffer) ≡ 0 → ⊥) → written p buffer ≡ buffer
  -- "18 as for making a net"
  pub refused_18 : (p : Plan) (size : ℕ) → (write_fault p size ≡ 18) ↔ (plan_fault p ≡ 0 → ⊥)
  -- "then 10, exactly when the buffer is shorter than the plan's length"
  pub refused_10 : (p : Plan) (size : ℕ) → (write_fault p size ≡ 10) ↔ ((plan_fault p ≡ 0) × (size < length (plan_file p)))
