-- What stands in the arrays when a net has been taken apart, and which table is put together from them. For the contracts of `apart`. Assumes nothing.
use Rattle.std.specs.Prelude.{ℕ, ◌+◌, ◌*◌, ◌≤◌, ◌≡◌, true, cond, length, get_or}
use mathlib.Core.List.{List, Memᴰ}
use Rattle.ids.specs.Limits.{most_threads, most_open}
use Rattle.model.specs.Plan.{Record}
use Rattle.model.specs.PlanValue.{records_of}
use Rattle.model.specs.Net.{Call, has_node}
use Rattle.table.specs.declared.Table.{Table}
use Rattle.moves.specs.Held.{Tells, ticket_number, parent_number, node_number, key_of}
use Rattle.value.specs.View.{first_calls}
use Rattle.value.specs.Handed.{table_of}
use Rattle.value.specs.declared.Call.{Call as CallValue}
use Rattle.value.specs.declared.Net.{Net}

-- Apart

-- the arrays hold the first calls of a table
pub record Holding (calls : List CallValue) (n : ℕ) (tickets parents nodes : List ℕ) : Type 0 where
  pub of_tickets : Tells ticket_number (first_calls calls n) tickets
  pub of_parents : Tells parent_number (first_calls calls n) parents
  pub of_nodes : Tells node_number (first_calls calls n) nodes

abbrev pub Numbers : Net → List ℕ → List ℕ → List ℕ → Type 0
Numbers net tickets parents nodes = Holding net.calls net.used tickets parents nodes

-- a call's key, from the sites and the levels of the nodes
unfoldable pub key_in : List ℕ → List ℕ → Call → ℕ
key_in places levels c = cond c.active 0 (most_threads * get_or places c.node 0 + get_or levels c.node 0 + 1)

-- the keys of the first calls
abbrev pub Keyed : Net → ℕ → List ℕ → Type 0
Keyed net n keys = Tells (key_of (records_of net.plan)) (first_calls net.calls n) keys

-- every open call's node has a record
abbrev pub Known : Net → Type 0
Known net = (c : Call) → Memᴰ c (first_calls net.calls net.used) → has_node (records_of net.plan) c.node ≡ true

abbrev pub Keys : Net → List ℕ → Type 0
Keys net keys = Keyed net net.used keys

-- a table with the same numbers and another's keys
pub record Beside (old new : Table) : Type 0 where
  pub same_tickets : new.tickets ≡ old.tickets
  pub same_parents : new.parents ≡ old.parents
  pub same_nodes : new.nodes ≡ old.nodes
  pub same_count : new.used ≡ old.used

-- Together

-- the arrays hold some calls
pub record Joining (rs : List Record) (cs : List Call) (tickets parents keys nodes : List ℕ) (used : ℕ) : Type 0 where
  pub of_tickets : Tells ticket_number cs tickets
  pub of_parents : Tells parent_number cs parents
  pub of_keys : Tells (key_of rs) cs keys
  pub of_nodes : Tells node_number cs nodes
  pub count : used ≡ length cs
  pub few : length cs ≤ most_open

abbrev pub Joinable : List ℕ → List ℕ → List ℕ → List ℕ → ℕ → Type 0
Joinable tickets parents keys nodes used = (rs : List Record) × (cs : List Call) × Joining rs cs tickets parents keys nodes used

abbrev pub Joins : List ℕ → List ℕ → List ℕ → List ℕ → ℕ → List CallValue → Type 0
Joins tickets parents keys nodes used calls =
    (rs : List Record) (cs : List Call) → Joining rs cs tickets parents keys nodes used → calls ≡ table_of cs
