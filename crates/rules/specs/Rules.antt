-- What the arrays hold when a net rule is tested, each test behind those before it, and what the test answers. For the contracts of `rules`. Assumes nothing.
use Rattle.std.specs.Prelude.{ℕ, ◌≤◌, ◌<◌, ◌≡◌, Bool, not, ◌||◌, length, get_or, eqb}
use mathlib.Core.List.{List, Memᴰ}
use Rattle.ids.specs.Limits.{sites, nodes, no_ticket, most_open}
use Rattle.lists.specs.Pick.{all}
use Rattle.model.specs.Plan.{Record, threads}
use Rattle.model.specs.Net.{Call, has_node, lookup, counts}
use Rattle.model.specs.NetRules.{parent_stands, parent_kept, could_go, tickets_kept}
use Rattle.model.specs.Steady.{Firm}
use Rattle.moves.specs.Held.{Tells, ticket_number, parent_number, node_number, key_of, RoomsTell}
use Rattle.faults.specs.Seen.{Listing, Edging}

-- how many calls the arrays hold
pub record CallsCounted (cs : List Call) (used : ℕ) : Type 0 where
  pub count : used ≡ length cs
  pub few : length cs ≤ most_open

-- "open tickets differ and none is 0"

pub record TicketsSeen (cs : List Call) (tickets : List ℕ) (used : ℕ) : Type 0 where
  pub counted : CallsCounted cs used
  pub of_tickets : Tells ticket_number cs tickets

abbrev pub TicketsTested : List ℕ → ℕ → Type 0
TicketsTested tickets used = (cs : List Call) × TicketsSeen cs tickets used

abbrev pub TicketsTest : List ℕ → ℕ → Bool → Type 0
TicketsTest tickets used r = (cs : List Call) → TicketsSeen cs tickets used → r ≡ tickets_kept cs

-- "every open call's node is in the plan"

pub record NodesSeen (rs : List Record) (cs : List Call) (open-nodes : List ℕ) (used : ℕ) (places : List ℕ) : Type 0 where
  pub counted : CallsCounted cs used
  pub of_nodes : Tells node_number cs open-nodes
  pub listing : Listing rs places

abbrev pub NodesTested : List ℕ → ℕ → List ℕ → Type 0
NodesTested open-nodes used places = (rs : List Record) × (cs : List Call) × NodesSeen rs cs open-nodes used places

abbrev pub NodesTest : List ℕ → ℕ → List ℕ → Bool → Type 0
NodesTest open-nodes used places r =
    (rs : List Record) (cs : List Call) → NodesSeen rs cs open-nodes used places → r ≡ all (λ c. has_node rs c.node) cs

-- "every parent is open and active, with the edge in the plan"

pub record ParentsSeen (rs : List Record) (cs : List Call) (tickets keys open-nodes : List ℕ) (used : ℕ) (edges : List ℕ) : Type 0 where
  pub counted : CallsCounted cs used
  pub of_tickets : Tells ticket_number cs tickets
  pub of_keys : Tells (key_of rs) cs keys
  pub of_nodes : Tells node_number cs open-nodes
  pub edging : Edging rs edges
  pub inside : (c : Call) → Memᴰ c cs → c.node < nodes

-- one parent, and the node of its child
pub record ParentSeen (rs : List Record) (cs : List Call) (tickets keys open-nodes : List ℕ) (used : ℕ) (edges : List ℕ) (parent node : ℕ) : Type 0 where
  pub seen : ParentsSeen rs cs tickets keys open-nodes used edges
  pub node_inside : node < nodes

abbrev pub ParentTested : List ℕ → List ℕ → List ℕ → ℕ → List ℕ → ℕ → ℕ → Type 0
ParentTested tickets keys open-nodes used edges parent node =
    (rs : List Record) × (cs : List Call) × ParentSeen rs cs tickets keys open-nodes used edges parent node

abbrev pub ParentTest : List ℕ → List ℕ → List ℕ → ℕ → List ℕ → ℕ → ℕ → Bool → Type 0
ParentTest tickets keys open-nodes used edges parent node r =
    (rs : List Record) (cs : List Call) → ParentSeen rs cs tickets keys open-nodes used edges parent node
    → r ≡ (eqb parent no_ticket || parent_stands rs (lookup cs parent) node)

pub record AllParentsSeen (rs : List Record) (cs : List Call) (tickets parents keys open-nodes : List ℕ) (used : ℕ) (edges : List ℕ) : Type 0 where
  pub seen : ParentsSeen rs cs tickets keys open-nodes used edges
  pub of_parents : Tells parent_number cs parents

abbrev pub ParentsTested : List ℕ → List ℕ → List ℕ → List ℕ → ℕ → List ℕ → Type 0
ParentsTested tickets parents keys open-nodes used edges =
    (rs : List Record) × (cs : List Call) × AllParentsSeen rs cs tickets parents keys open-nodes used edges

abbrev pub ParentsTest : List ℕ → List ℕ → List ℕ → List ℕ → ℕ → List ℕ → Bool → Type 0
ParentsTest tickets parents keys open-nodes used edges r =
    (rs : List Record) (cs : List Call) → AllParentsSeen rs cs tickets parents keys open-nodes used edges → r ≡ all (parent_kept rs cs) cs

-- "no waiting call may be admitted"

pub record SettledSeen (rs : List Record) (cs : List Call) (keys rooms : List ℕ) (used : ℕ) (most-of : List ℕ) : Type 0 where
  pub count : used ≡ length cs
  pub of_keys : Tells (key_of rs) cs keys
  pub of_rooms : RoomsTell rs (counts rs cs) rooms
  pub firm : Firm rs cs
  pub threads_whole : length most-of ≡ sites
  pub threads_are : (s : ℕ) → s < sites → get_or most-of s 0 ≡ threads rs s

abbrev pub SettledTested : List ℕ → List ℕ → ℕ → List ℕ → Type 0
SettledTested keys rooms used most-of = (rs : List Record) × (cs : List Call) × SettledSeen rs cs keys rooms used most-of

abbrev pub SettledTest : List ℕ → List ℕ → ℕ → List ℕ → Bool → Type 0
SettledTest keys rooms used most-of r =
    (rs : List Record) (cs : List Call) → SettledSeen rs cs keys rooms used most-of → r ≡ all (λ c. not (could_go rs cs c)) cs
