-- A plan as the value that holds it: the records stored one after the other in the empty plan, so that each plan has one value.
-- Assumes nothing.
use Rattle.std.specs.Prelude.{ℕ, zero, suc, ◌+◌, min, Bool, not, cond, List, [], ◌∷◌, get_or, replicate, set, eqb, Result, Ok, Err, ◌≡◌, length}
use Rattle.std.proofs.Math.Option.{Option, none, some}
use Rattle.ids.specs.Limits.{sites, nodes, most_edges}
use Rattle.ids.specs.Made.{Told}
use Rattle.model.specs.Plan.{Record, site, node, edge, Place, push}
use Rattle.model.specs.Reading.{Reading, accepted, refused_at}
use Rattle.model.specs.declared.Edge.{Edge}
use Rattle.model.specs.declared.Plan.{Plan}
use Rattle.model.specs.declared.PlanRefusal.{PlanRefusal}
use Rattle.model.specs.declared.ReadFault.{ReadFault}

-- a node that has no record is nowhere; at any other place it has one, also where no site has that number (check 5)
abbrev pub nowhere : ℕ
nowhere = 255

abbrev pub somewhere : ℕ → Bool
somewhere place = not (eqb place nowhere)

-- a call edge of the value, by its numbers
abbrev pub pair : ℕ → ℕ → Edge
pair c d = record { caller = record { 0 = c }; callee = record { 0 = d } }

unfoldable pub empty_plan : Plan
empty_plan =
    record {
      threads = replicate sites 0;
      places = replicate nodes nowhere;
      levels = replicate nodes 0;
      pairs = replicate most_edges (pair 0 0);
      edges = 0;
    }

abbrev pub stored : Plan → Record → Plan
stored p (site s t) =
    record { threads = set p.threads s t; places = p.places; levels = p.levels; pairs = p.pairs; edges = p.edges }
stored p (node n s l) =
    record {
      threads = p.threads;
      places = set p.places n s;
      levels = set p.levels n l;
      pairs = p.pairs;
      edges = p.edges;
    }
stored p (edge c d) =
    record {
      threads = p.threads;
      places = p.places;
      levels = p.levels;
      pairs = set p.pairs p.edges (pair c d);
      edges = p.edges + 1;
    }

-- the value of a plan, its records stored in the file's order
unfoldable pub value : List Record → Plan
value [] = empty_plan
value (r ∷ rs) = stored (value rs) r

-- the numbers of document 01
abbrev pub refusal_number : PlanRefusal → ℕ
refusal_number PlanRefusal.InputEnds = 1
refusal_number PlanRefusal.UnknownKind = 2
refusal_number PlanRefusal.NotRising = 3
refusal_number PlanRefusal.OutOfRange = 4
refusal_number PlanRefusal.NotListed = 5
refusal_number PlanRefusal.LevelTooHigh = 6
refusal_number PlanRefusal.Loop = 7
refusal_number PlanRefusal.SelfDependence = 8
refusal_number PlanRefusal.TooManyEdges = 9

-- the refusal's number, or 0, and then the offset or the bytes used
abbrev pub told_read : Result ℕ ReadFault → Told
told_read (Ok used) = 0 ∷ used ∷ []
told_read (Err fault) = refusal_number fault.why ∷ fault.offset ∷ []

-- what a reading tells, and the plan that it hands back; demand 1, "A refused plan gives back the empty plan"
abbrev pub reading_told : Reading → Told
reading_told (accepted rs used) = 0 ∷ used ∷ []
reading_told (refused_at number offset) = number ∷ offset ∷ []

abbrev pub reading_plan : Reading → Plan
reading_plan (accepted rs used) = value rs
reading_plan (refused_at number offset) = empty_plan

-- the arrays of a value are as long as its type has them
pub record Sized (p : Plan) : Type 0 where
  pub threads : length p.threads ≡ sites
  pub places : length p.places ≡ nodes
  pub levels : length p.levels ≡ nodes
  pub pairs : length p.pairs ≡ most_edges

-- The records that a plan's value holds, whoever made it: its sites, nodes and edges in the order of their numbers, the latest first. A site has a
-- record where its threads are not 0, and a node where its place is not nowhere

-- a record or none for each number below k
abbrev pub each : (ℕ → Option Record) → ℕ → List Record → List Record
each record-at zero rs = rs
each record-at (suc k) rs = push (record-at k) (each record-at k rs)

abbrev pub site_at : List ℕ → ℕ → Option Record
site_at threads s = cond (eqb (get_or threads s 0) 0) none (some (site s (get_or threads s 0)))

abbrev pub node_at : List ℕ → List ℕ → ℕ → Option Record
node_at places levels n = cond (somewhere (get_or places n nowhere)) (some (node n (get_or places n nowhere) (get_or levels n 0))) none

abbrev pub pair_at : List Edge → ℕ → Edge
pair_at pairs i = get_or pairs i (pair 0 0)

abbrev pub edge_at : List Edge → ℕ → Option Record
edge_at pairs i = some (edge (pair_at pairs i).caller.0 (pair_at pairs i).callee.0)

abbrev pub site_records : List ℕ → ℕ → List Record
site_records threads k = each (site_at threads) k []

abbrev pub node_records : List ℕ → List ℕ → ℕ → List Record → List Record
node_records places levels k rs = each (node_at places levels) k rs

abbrev pub edge_records : List Edge → ℕ → List Record → List Record
edge_records pairs k rs = each (edge_at pairs) k rs

unfoldable pub records_of : Plan → List Record
records_of p =
    edge_records p.pairs (min p.edges most_edges)
    (node_records p.places p.levels nodes (site_records p.threads sites))

-- a node's site and level in a plan's value, where it has a record there
unfoldable pub held : Plan → ℕ → Option Place
held p n =
    cond (somewhere (get_or p.places n nowhere)) (some (record { at = get_or p.places n nowhere; level = get_or p.levels n 0 })) none
