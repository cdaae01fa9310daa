-- Reading a plan: document 01, "Plan bytes". "The reader goes through the lent bytes from record to record, keeping its place, and answers the
-- plan and the bytes used, or a refusal and an offset." Assumes nothing.
use Rattle.std.specs.Prelude.{ℕ, zero, suc, ◌+◌, ◌-◌, ◌≡◌, Bool, true, false, cond, List, [], ◌∷◌, length, get_or, eqb}
use Rattle.std.proofs.Math.Option.{Option, none, some}
use Rattle.model.specs.Graph.{Depends}
use Rattle.model.specs.House.{Next, lacking, unknown, cut, whole, next}
use Rattle.model.specs.Plan.{Record, site, node, edge, Levels, six, record_fault, passes, end_fault, plan_kinds, bytes_of, has_edge, site_steps, no_steps}

pub data Reading : Type 0 where
  -- the plan's records and the bytes used
  accepted : List Record → ℕ → Reading
  -- the refusal's number and the offset
  refused_at : ℕ → ℕ → Reading

-- a record's kind and body, or none for the end record
abbrev pub decoded : ℕ → List ℕ → Option Record
decoded kind body =
    cond (eqb kind 1) (some (site (get_or body 0 0) (get_or body 1 0)))
    (cond (eqb kind 2) (some (node (get_or body 0 0) (get_or body 1 0) (get_or body 2 0)))
    (cond (eqb kind 3) (some (edge (get_or body 0 0) (get_or body 1 0))) none))

-- the number that the checks on the whole plan give at the end record, 0 where it is accepted
abbrev pub Ends : Type 0
Ends = List Record → ℕ

-- nothing is asked of the whole plan
abbrev pub unchecked : Ends
unchecked rs = 0

-- at the end record, with the number of its checks and its offset
abbrev pub finish : Bool → ℕ → List Record → ℕ → Reading
finish true number rs at = accepted rs (at + 1)
finish false number rs at = refused_at number at

-- after a record's checks: go on behind it, or stop with its number
abbrev pub keep : Bool → Levels → (List Record → ℕ → Reading) → List Record → ℕ → Record → Reading
keep true levels go rs at r = go (r ∷ rs) (at + length (bytes_of r))
keep false levels go rs at r = refused_at (record_fault levels rs r) at

abbrev pub take_in : Levels → Ends → (List Record → ℕ → Reading) → List Record → ℕ → Option Record → Reading
take_in levels ends go rs at none = finish (eqb (ends rs) 0) (ends rs) rs at
take_in levels ends go rs at (some r) = keep (eqb (record_fault levels rs r) 0) levels go rs at r

-- the reading, by what stands next; "A record that can't be read ends the reading there"
abbrev pub reading_by : Levels → Ends → (List Record → ℕ → List ℕ → Reading) → List Record → ℕ → Next → Reading
reading_by levels ends go rs at lacking = refused_at 1 at
reading_by levels ends go rs at unknown = refused_at 2 at
reading_by levels ends go rs at cut = refused_at 1 at
reading_by levels ends go rs at (whole kind body rest) = take_in levels ends (λ qs to. go qs to rest) rs at (decoded kind body)

-- the reading behind the records rs, at an offset; each turn uses a byte at least, so that as many turns as bytes and one more are enough
unfoldable pub read_on : Levels → Ends → ℕ → List Record → ℕ → List ℕ → Reading
read_on levels ends zero rs at bytes = refused_at 1 at
read_on levels ends (suc turns) rs at bytes =
    reading_by levels ends (λ qs to rest. read_on levels ends turns qs to rest) rs at (next plan_kinds bytes)

abbrev pub read_with : Levels → Ends → List ℕ → Reading
read_with levels ends bytes = read_on levels ends (suc (length bytes)) [] 0 bytes

-- a plan is read with check 6 of each node, and with 7, then 8 at the end record
unfoldable pub read : List ℕ → Reading
read bytes = read_with six end_fault bytes

-- the reading as far as the end record, before 7 and 8
unfoldable pub scanned : List ℕ → Reading
scanned bytes = read_with six unchecked bytes

-- the checks at the end record of a reading that came so far
abbrev pub end_checked : Ends → Reading → Reading
end_checked ends (accepted rs used) = finish (eqb (ends rs) 0) (ends rs) rs (used - 1)
end_checked ends (refused_at number at) = refused_at number at

-- a plan that is to be accepted: its records pass the file's checks, the call edges have no loop, and no node depends on itself
pub record PlanOk (rs : List Record) : Type 0 where
  pub records : passes six rs ≡ true
  pub no_loop : (n : ℕ) → Depends (has_edge rs) no_steps n n → ⊥
  pub acyclic : (n : ℕ) → Depends (has_edge rs) (site_steps rs) n n → ⊥
