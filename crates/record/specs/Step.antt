-- One record over the plan's value, for the contracts of `record`. Assumes nothing.
use Rattle.std.specs.Prelude.{ℕ, suc, ◌+◌, Bool, true, false, not, ◌&&◌, ◌||◌, cond, List, [], ◌∷◌, length, get_or, drop, ltb, leb, eqb, Some, None, Result, Ok, Err}
use Rattle.std.specs.Prelude as std
use Rattle.std.proofs.Math.Option.{Option, none, some}
use Rattle.ids.specs.Limits.{sites, most_threads, nodes, most_edges}
use Rattle.model.specs.House.{Next, lacking, unknown, cut, whole, next}
use Rattle.model.specs.Plan.{Record, plan_kinds, first_fault, site, node, edge}
use Rattle.model.specs.PlanValue.{refusal_number, nowhere, somewhere, stored}
use Rattle.model.specs.declared.Plan.{Plan}
use Rattle.model.specs.declared.PlanRecord.{PlanRecord}
use Rattle.model.specs.declared.PlanRefusal.{PlanRefusal}
use Rattle.record.specs.declared.Found.{Found}

-- the length that the table of kinds has
abbrev pub body_told : std.Option ℕ → Option ℕ
body_told (Some n) = some n
body_told None = none

-- a record's kind and body
abbrev pub record_of : ℕ → List ℕ → PlanRecord
record_of kind body =
    cond (eqb kind 1) (PlanRecord.Site (record { 0 = get_or body 0 0 }) (get_or body 1 0))
    (cond (eqb kind 2) (PlanRecord.Node (record { 0 = get_or body 0 0 }) (record { 0 = get_or body 1 0 }) (record { 0 = get_or body 2 0 }))
    (cond (eqb kind 3) (PlanRecord.Edge (record { 0 = get_or body 0 0 }) (record { 0 = get_or body 1 0 })) PlanRecord.End))

-- what stands there, a record with the offset behind it, or the refusal: 1 where a kind byte or a body byte is due, 2 where the kind is unknown
abbrev pub from_next : Next → ℕ → Result Found PlanRefusal
from_next lacking at = Err PlanRefusal.InputEnds
from_next unknown at = Err PlanRefusal.UnknownKind
from_next cut at = Err PlanRefusal.InputEnds
from_next (whole kind body rest) at = Ok (record { next = record_of kind body; behind = at + suc (length body) })

-- what stands at an offset
abbrev pub next_in : List ℕ → ℕ → Result Found PlanRefusal
next_in bytes at = from_next (next plan_kinds (drop at bytes)) at

-- a record of the plan as a record of the file
abbrev pub of_record : Record → PlanRecord
of_record (site s t) = PlanRecord.Site (record { 0 = s }) t
of_record (node n s l) = PlanRecord.Node (record { 0 = n }) (record { 0 = s }) (record { 0 = l })
of_record (edge c d) = PlanRecord.Edge (record { 0 = c }) (record { 0 = d })

-- the record before, `End` where there is none
abbrev pub last_of : List Record → PlanRecord
last_of [] = PlanRecord.End
last_of (r ∷ rs) = of_record r

-- "the pair (calling, called) strictly rises"
abbrev pub pair_rises : ℕ → ℕ → ℕ → ℕ → Bool
pair_rises a b c d = ltb a c || (eqb a c && ltb b d)

abbrev pub follows_last : PlanRecord → PlanRecord → Bool
follows_last PlanRecord.End r = true
follows_last (PlanRecord.Site a t) (PlanRecord.Site b u) = ltb a.0 b.0
follows_last (PlanRecord.Site a t) (PlanRecord.Node n s l) = true
follows_last (PlanRecord.Site a t) (PlanRecord.Edge c d) = true
follows_last (PlanRecord.Site a t) PlanRecord.End = true
follows_last (PlanRecord.Node a s l) (PlanRecord.Site b u) = false
follows_last (PlanRecord.Node a s l) (PlanRecord.Node b r k) = ltb a.0 b.0
follows_last (PlanRecord.Node a s l) (PlanRecord.Edge c d) = true
follows_last (PlanRecord.Node a s l) PlanRecord.End = true
follows_last (PlanRecord.Edge a b) (PlanRecord.Site s u) = false
follows_last (PlanRecord.Edge a b) (PlanRecord.Node n s l) = false
follows_last (PlanRecord.Edge a b) (PlanRecord.Edge c d) = pair_rises a.0 b.0 c.0 d.0
follows_last (PlanRecord.Edge a b) PlanRecord.End = true

-- the number of a check's answer, 0 where all pass
abbrev pub told_check : Result (Unit {0}) PlanRefusal → ℕ
told_check (Ok passed) = 0
told_check (Err why) = refusal_number why

-- what the value's arrays say of the records before
abbrev pub listed_site : List ℕ → ℕ → Bool
listed_site threads s = not (eqb (get_or threads s 0) 0)

abbrev pub listed_node : List ℕ → ℕ → Bool
listed_node places n = somewhere (get_or places n nowhere)

-- the checks on a record of each kind
abbrev pub site_fault : ℕ → ℕ → ℕ
site_fault s t = first_fault ((ltb s sites && (ltb 0 t && leb t most_threads), 4) ∷ [])

abbrev pub node_fault : List ℕ → ℕ → ℕ → ℕ → ℕ
node_fault threads n s l = first_fault ((ltb n nodes, 4) ∷ (listed_site threads s, 5) ∷ (ltb l (get_or threads s 0), 6) ∷ [])

abbrev pub edge_fault : List ℕ → ℕ → ℕ → ℕ → ℕ
edge_fault places edges c d = first_fault ((listed_node places c && listed_node places d, 5) ∷ (ltb edges most_edges, 9) ∷ [])

abbrev pub kind_fault : List ℕ → List ℕ → ℕ → PlanRecord → ℕ
kind_fault threads places edges (PlanRecord.Site s t) = site_fault s.0 t
kind_fault threads places edges (PlanRecord.Node n s l) = node_fault threads n.0 s.0 l.0
kind_fault threads places edges (PlanRecord.Edge c d) = edge_fault places edges c.0 d.0
kind_fault threads places edges PlanRecord.End = 0

-- and before them that it follows the last one
abbrev pub value_fault : List ℕ → List ℕ → ℕ → PlanRecord → PlanRecord → ℕ
value_fault threads places edges last r = cond (follows_last last r) (kind_fault threads places edges r) 3

-- the plan with one record more; a record that has no place in the value leaves it as it was
abbrev pub stored_in : Plan → PlanRecord → Plan
stored_in p (PlanRecord.Site s t) = cond (ltb s.0 sites) (stored p (site s.0 t)) p
stored_in p (PlanRecord.Node n s l) = cond (ltb n.0 nodes) (stored p (node n.0 s.0 l.0)) p
stored_in p (PlanRecord.Edge c d) = cond (ltb p.edges most_edges) (stored p (edge c.0 d.0)) p
stored_in p PlanRecord.End = p
