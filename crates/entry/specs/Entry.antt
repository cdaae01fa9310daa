-- What the tests of the net rules answer, one behind the other, and what the table holds then. For the contracts of `entry`. Assumes nothing.
use Rattle.std.specs.Prelude.{ℕ, ◌≤◌, ◌≡◌, true, false, not, List, Result, Ok, Err}
use Rattle.ids.specs.Limits.{most_open, most_edges}
use Rattle.lists.specs.Pick.{all}
use Rattle.model.specs.Plan.{six, passes}
use Rattle.model.specs.PlanValue.{Sized, records_of}
use Rattle.model.specs.Net.{Call, has_node, counts}
use Rattle.model.specs.NetRules.{parent_kept, could_go, tickets_kept, book_kept, all_lawful}
use Rattle.model.specs.declared.Plan.{Plan}
use Rattle.audit.specs.Audits.{records_pass}
use Rattle.table.specs.Places.{Nothing}
use Rattle.table.specs.declared.Table.{Table}
use Rattle.rooms.specs.Rooms.{NoLimit}
use Rattle.moves.specs.Held.{arrays_of, RoomsTell}
use Rattle.moves.specs.declared.Running.{Running as Run}
use Rattle.faults.specs.Seen.{Edging}
use Rattle.steps.specs.Running.{Running}
use Rattle.value.specs.View.{first_calls, core_of, row_of, broken, rule_number}
use Rattle.value.specs.declared.Net.{Net}
use Rattle.value.specs.declared.NetRule.{NetRule}
use Rattle.apart.specs.Apart.{Numbers, Keys}
use Rattle.tally.specs.Tally.{CountsTell}

abbrev pub open_calls : Net → List Call
open_calls net = first_calls net.calls net.used

-- The rules one part behind the other: what a part has shown of the net, or the first broken rule

abbrev pub Part : Net → Type 0 → Result Unit NetRule → Type 0
Part net Shown (Ok kept) = Shown
Part net Shown (Err rule) = rule_number rule ≡ broken net

-- the counts of the value, and the plan, whose arrays are whole
pub record PlanKept (net : Net) : Type 0 where
  pub edges_few : net.plan.edges ≤ most_edges
  pub calls_few : net.used ≤ most_open
  pub pass : passes six (records_of net.plan) ≡ true
  pub sized : Sized net.plan

-- the records of a plan pass, or the rule on the plan is broken
abbrev pub RecordRule : Plan → Result Unit NetRule → Type 0
RecordRule plan (Ok kept) = (records_pass plan ≡ true) × Sized plan
RecordRule plan (Err rule) = (records_pass plan ≡ false) × (rule_number rule ≡ 1)

abbrev pub PlanRules : Net → Result Unit NetRule → Type 0
PlanRules net r = Part net (PlanKept net) r

-- the tickets and the nodes, behind the rules on the plan
pub record NumberTested (net : Net) (t : Table) : Type 0 where
  pub plan_kept : PlanKept net
  pub numbers : Numbers net t.tickets t.parents t.nodes
  pub counted : t.used ≡ net.used

pub record NumberKept (net : Net) : Type 0 where
  pub plan_kept : PlanKept net
  pub tickets_are : tickets_kept (open_calls net) ≡ true
  pub nodes_are : all (λ c. has_node (records_of net.plan) c.node) (open_calls net) ≡ true

abbrev pub NumberRules : Net → Result Unit NetRule → Type 0
NumberRules net r = Part net (NumberKept net) r

-- the calls in a table, whose nodes have records
pub record Tabled (net : Net) (t : Table) : Type 0 where
  pub numbers : Numbers net t.tickets t.parents t.nodes
  pub of_keys : Keys net t.keys
  pub counted : t.used ≡ net.used

-- the parents and the counts
pub record CallTested (net : Net) (t : Table) (edges : List ℕ) : Type 0 where
  pub number_kept : NumberKept net
  pub tabled : Tabled net t
  pub edging : Edging (records_of net.plan) edges

pub record CallKept (net : Net) : Type 0 where
  pub number_kept : NumberKept net
  pub parents_are : all (parent_kept (records_of net.plan) (open_calls net)) (open_calls net) ≡ true
  pub counts_are : book_kept (record { plan = records_of net.plan; calls = open_calls net }) (row_of net.counts) ≡ true
  pub told : CountsTell (records_of net.plan) (open_calls net) net.counts

abbrev pub CallRules : Net → Result Unit NetRule → Type 0
CallRules net r = Part net (CallKept net) r

-- the sites and the waiting calls
pub record SiteTested (net : Net) (run : Run) : Type 0 where
  pub call_kept : CallKept net
  pub tabled : Tabled net run.table
  pub unlimited : NoLimit run.rooms

pub record SiteKept (net : Net) (rooms : List ℕ) : Type 0 where
  pub lawful_are : all_lawful (record { plan = records_of net.plan; calls = open_calls net }) ≡ true
  pub settled_are : all (λ c. not (could_go (records_of net.plan) (open_calls net) c)) (open_calls net) ≡ true
  pub of_rooms : RoomsTell (records_of net.plan) (counts (records_of net.plan) (open_calls net)) rooms

-- no rule is broken, and the run has its table with the rooms
pub record SitesRun (net : Net) (t : Table) (run : Run) : Type 0 where
  pub fault : 0 ≡ broken net
  pub same : run.table ≡ t
  pub kept : SiteKept net run.rooms.left

abbrev pub SiteRules : Net → Run → Run → Result Unit NetRule → Type 0
SiteRules net old new (Ok kept) = SitesRun net old.table new
SiteRules net old new (Err rule) = rule_number rule ≡ broken net

-- All rules

-- a run that holds nothing
abbrev pub Blank : Run → Type 0
Blank run = Nothing run.table × NoLimit run.rooms

-- what the run holds of a net that breaks none
pub record Prepared (net : Net) (run : Run) (edges : List ℕ) : Type 0 where
  pub fault : 0 ≡ broken net
  pub counted : run.table.used ≡ net.used
  pub runs : Running (core_of net) (arrays_of run) run.table.used net.plan.threads net.plan.places net.plan.levels edges

-- that, or the first broken rule
abbrev pub Prepares : Net → List ℕ → Run → Result Unit NetRule → Type 0
Prepares net edges run (Ok kept) = Prepared net run edges
Prepares net edges run (Err rule) = rule_number rule ≡ broken net
