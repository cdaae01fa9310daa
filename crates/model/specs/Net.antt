-- The net of open calls: document 01, "Starts, calls, returns". `rs` is the plan, the list of its records, and `cs` are the open calls in the order
-- of their opening. A call waits from its opening on or never, so that this is the order of waiting too. Assumes nothing.
use Rattle.std.specs.Prelude.{ℕ, Bool, true, false, not, ◌&&◌, cond, List, [], ◌∷◌, ◌++◌, replicate, leb, eqb}
use Rattle.std.proofs.Math.Option.{Option, none, some}
use Rattle.ids.specs.Limits.{most_threads, no_ticket}
use Rattle.lists.specs.Pick.{any, found, without, changed, picked}
use Rattle.model.specs.Site.{raised, may_admit, limit, blocking}
use Rattle.model.specs.Plan.{Record, Place, place, present, threads}
use Rattle.model.specs.PlanValue.{nowhere}

-- "An open call has a ticket, a node, a parent or none, and is active or waiting"
pub record Call : Type 0 where
  pub ticket : ℕ
  -- the parent's ticket; no ticket for a call without a parent
  pub parent : ℕ
  pub node : ℕ
  pub active : Bool

-- the plan and the open calls: all that a net has to remember
pub record Core : Type 0 where
  pub plan : List Record
  pub calls : List Call

-- no call is open
abbrev pub empty_net : List Record → Core
empty_net rs = record { plan = rs; calls = [] }

-- Nodes

unfoldable pub has_node : List Record → ℕ → Bool
has_node rs n = present (place rs n)

abbrev pub place_site : Option Place → ℕ
place_site none = nowhere
place_site (some p) = p.at

abbrev pub place_level : Option Place → ℕ
place_level none = 0
place_level (some p) = p.level

-- the site and the level of a node
unfoldable pub site_of : List Record → ℕ → ℕ
site_of rs n = place_site (place rs n)

unfoldable pub level_of : List Record → ℕ → ℕ
level_of rs n = place_level (place rs n)

-- Calls

unfoldable pub has : ℕ → Call → Bool
has t c = eqb c.ticket t

-- "The table of open calls is searched by ticket"
abbrev pub lookup : List Call → ℕ → Option Call
lookup cs t = found (has t) cs

abbrev pub is_open : Option Call → Bool
is_open none = false
is_open (some c) = true

abbrev pub is_active : Option Call → Bool
is_active none = false
is_active (some c) = c.active

abbrev pub node_of : Option Call → ℕ
node_of none = nowhere
node_of (some c) = c.node

-- the ticket, "or 0"
abbrev pub ticket_of : Option Call → ℕ
ticket_of none = no_ticket
ticket_of (some c) = c.ticket

unfoldable pub is_child : ℕ → Call → Bool
is_child t c = eqb c.parent t

-- the call of this ticket has an open child, active or waiting
unfoldable pub has_child : List Call → ℕ → Bool
has_child cs t = any (is_child t) cs

-- A site

unfoldable pub is_on : List Record → ℕ → Call → Bool
is_on rs s c = eqb (site_of rs c.node) s

unfoldable pub active_on : List Record → ℕ → Call → Bool
active_on rs s c = is_on rs s c && c.active

unfoldable pub waits_on : List Record → ℕ → Call → Bool
waits_on rs s c = is_on rs s c && not c.active

-- an active call of level k or higher
unfoldable pub at_or_above : List Record → ℕ → ℕ → Call → Bool
at_or_above rs s k c = active_on rs s c && leb k (level_of rs c.node)

-- "let a[k] be the active calls of level k": one more at its level for each active call (`counts_at`, of CountsLaws)
unfoldable pub counts : List Record → List Call → ℕ → List ℕ
counts rs [] s = replicate most_threads 0
counts rs (c ∷ cs) s = cond (active_on rs s c) (raised (counts rs cs s) (level_of rs c.node)) (counts rs cs s)

-- the calls that wait at a site, the one that has waited longest first
unfoldable pub waiting_order : List Record → List Call → ℕ → List Call
waiting_order rs cs s = picked (waits_on rs s) cs

-- "A call of level i, below T, may be admitted exactly when the site stays lawful with a[i] one larger": a call at node n could be given a thread
unfoldable pub admissible : List Record → List Call → ℕ → Bool
admissible rs cs n = may_admit (threads rs (site_of rs n)) (counts rs cs (site_of rs n)) (level_of rs n)

-- "the highest full level at or below it": what is in the way of a call at node n that may not be admitted
unfoldable pub in_the_way : List Record → List Call → ℕ → ℕ
in_the_way rs cs n = blocking (threads rs (site_of rs n)) (counts rs cs (site_of rs n)) (level_of rs n)

-- how many levels of a site are admissible; of a listed site of a net that keeps the rules, the firmware's number (`limit_agrees`, of AgreeLaws)
unfoldable pub limit_at : List Record → List Call → ℕ → ℕ
limit_at rs cs s = limit (threads rs s) (counts rs cs s)

-- What becomes of the open calls

-- "If the level may be admitted the new call is active, else it waits, last at its site"
unfoldable pub newcomer : List Record → List Call → ℕ → ℕ → ℕ → Call
newcomer rs cs parent ticket node = record { ticket = ticket; parent = parent; node = node; active = admissible rs cs node }

unfoldable pub opened : List Record → List Call → ℕ → ℕ → ℕ → List Call
opened rs cs parent ticket node = cs ++ (newcomer rs cs parent ticket node ∷ [])

-- "the ticket's call ends and its thread comes back"
unfoldable pub closed : List Call → ℕ → List Call
closed cs ticket = without (has ticket) cs

-- "of the calls waiting at that site with an admissible level"
unfoldable pub may_wake : List Record → List Call → ℕ → Call → Bool
may_wake rs cs s c = waits_on rs s c && admissible rs cs c.node

-- "the one that has waited longest"
unfoldable pub to_wake : List Record → List Call → ℕ → Option Call
to_wake rs cs s = found (may_wake rs cs s) cs

abbrev pub activated : Call → Call
activated c = record { ticket = c.ticket; parent = c.parent; node = c.node; active = true }

-- "becomes active"
unfoldable pub woken : List Record → List Call → ℕ → List Call
woken rs cs s = changed activated (may_wake rs cs s) cs
