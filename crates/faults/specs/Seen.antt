-- What the tests of a command look at: the tickets, parents, keys and nodes of the open calls, the sites of the nodes and the table of edges. For the contracts
-- of `faults`. Assumes nothing.
use Rattle.std.specs.Prelude.{ℕ, ◌<◌, ◌≡◌, List, length, Option, Some, None, Result, Ok, Err}
use Rattle.std.proofs.Math.Option.{none, some}
use Rattle.ids.specs.Limits.{nodes, most_open, no_ticket}
use Rattle.lists.specs.Pick.{first_place}
use Rattle.model.specs.Plan.{Record, has_edge}
use Rattle.model.specs.declared.Refusal.{Refusal}
use Rattle.model.specs.Refusal.{refusal_told}
use Rattle.model.specs.Net.{Call, has_node, has, lookup}
use Rattle.model.specs.Steady.{Firm}
use Rattle.model.specs.Command.{start, call, return, take_back, fault}
use Rattle.record.specs.Step.{listed_node}
use Rattle.links.specs.Rows.{RowsTell}
use Rattle.moves.specs.Held.{Tells, ticket_number, parent_number, node_number, key_of}

-- the lent sites of the nodes tell which nodes have a record
pub record Listing (rs : List Record) (places : List ℕ) : Type 0 where
  pub whole : length places ≡ nodes
  pub tells : (n : ℕ) → listed_node places n ≡ has_node rs n

-- the lent words say for each node whom it may call
pub record Edging (rs : List Record) (edges : List ℕ) : Type 0 where
  pub whole : length edges ≡ nodes
  pub tells : RowsTell edges (has_edge rs)

-- the tickets of the open calls
pub record Ticketed (rs : List Record) (cs : List Call) (tickets : List ℕ) (used : ℕ) : Type 0 where
  pub of_tickets : Tells ticket_number cs tickets
  pub count : used ≡ length cs
  pub firm : Firm rs cs

-- the number of what stands in the way, or 0
abbrev pub fault_told : {A : Type 0} → Result A Refusal → ℕ
fault_told (Ok x) = 0
fault_told (Err why) = refusal_told why

-- the place of the call, where nothing does
abbrev pub place_told : Result ℕ Refusal → ℕ
place_told (Ok at) = at
place_told (Err why) = 0

-- an open call at a place of the table
pub record StandsAt (cs : List Call) (ticket at : ℕ) : Type 0 where
  pub who : Call
  pub found : lookup cs ticket ≡ some who
  pub here : at ≡ first_place (has ticket) cs
  pub inside : at < most_open

-- whether a ticket is open, and where
abbrev pub OpenAt : List Call → ℕ → Option ℕ → Type 0
OpenAt cs ticket None = lookup cs ticket ≡ none
OpenAt cs ticket (Some at) = StandsAt cs ticket at

-- whether a ticket is free, else the number that a start and a call with it are refused with
abbrev pub Free : List Record → List Call → ℕ → Result Unit Refusal → Type 0
Free rs cs ticket (Ok x) = (ticket ≡ no_ticket → ⊥) × (lookup cs ticket ≡ none)
Free rs cs ticket (Err why) =
    ((node : ℕ) → refusal_told why ≡ fault (record { plan = rs; calls = cs }) (start ticket node))
    × ((parent node : ℕ) → refusal_told why ≡ fault (record { plan = rs; calls = cs }) (call parent ticket node))

-- what a start looks at
pub record StartSeen (rs : List Record) (cs : List Call) (tickets places : List ℕ) (used : ℕ) : Type 0 where
  pub calls_told : Ticketed rs cs tickets used
  pub listing : Listing rs places

abbrev pub StartFault : List ℕ → List ℕ → ℕ → ℕ → ℕ → ℕ → Type 0
StartFault tickets places used ticket node number =
    (rs : List Record) (cs : List Call) → StartSeen rs cs tickets places used → number ≡ fault (record { plan = rs; calls = cs }) (start ticket node)

-- what a call looks at
pub record CallSeen (rs : List Record) (cs : List Call) (tickets keys open-nodes places edges : List ℕ) (used : ℕ) : Type 0 where
  pub calls_told : Ticketed rs cs tickets used
  pub of_keys : Tells (key_of rs) cs keys
  pub of_nodes : Tells node_number cs open-nodes
  pub listing : Listing rs places
  pub edging : Edging rs edges

abbrev pub CallFault : List ℕ → List ℕ → List ℕ → List ℕ → List ℕ → ℕ → ℕ → ℕ → ℕ → ℕ → Type 0
CallFault tickets keys open-nodes places edges used parent ticket node number =
    (rs : List Record) (cs : List Call) → CallSeen rs cs tickets keys open-nodes places edges used
    → number ≡ fault (record { plan = rs; calls = cs }) (call parent ticket node)

-- what a return looks at
pub record ReturnSeen (rs : List Record) (cs : List Call) (tickets parents keys : List ℕ) (used : ℕ) : Type 0 where
  pub calls_told : Ticketed rs cs tickets used
  pub of_parents : Tells parent_number cs parents
  pub of_keys : Tells (key_of rs) cs keys

-- what a taking back looks at
pub record BackSeen (rs : List Record) (cs : List Call) (tickets keys : List ℕ) (used : ℕ) : Type 0 where
  pub calls_told : Ticketed rs cs tickets used
  pub of_keys : Tells (key_of rs) cs keys

abbrev pub BackFault : List ℕ → List ℕ → ℕ → ℕ → ℕ → ℕ → Type 0
BackFault tickets keys used ticket number at =
    (rs : List Record) (cs : List Call) → BackSeen rs cs tickets keys used
    → (number ≡ fault (record { plan = rs; calls = cs }) (take_back ticket)) × (number ≡ 0 → at ≡ first_place (has ticket) cs)

-- the number, and where there is none the place of the call
abbrev pub ReturnFault : List ℕ → List ℕ → List ℕ → ℕ → ℕ → ℕ → ℕ → Type 0
ReturnFault tickets parents keys used ticket number at =
    (rs : List Record) (cs : List Call) → ReturnSeen rs cs tickets parents keys used
    → (number ≡ fault (record { plan = rs; calls = cs }) (return ticket)) × (number ≡ 0 → at ≡ first_place (has ticket) cs)
