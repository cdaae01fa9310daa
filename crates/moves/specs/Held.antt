-- What the arrays inside a run hold: the open calls of a net, number by number, and the rooms of its sites. For the contracts of `moves`.
-- Assumes nothing.
use Rattle.std.specs.Prelude.{ℕ, ◌+◌, ◌-◌, ◌*◌, ◌<◌, ◌≡◌, Bool, true, cond, List, length, get_or, ltb, Option, Some, None}
use Rattle.std.proofs.Math.Option.{Option as Maybe, none, some}
use Rattle.std.specs.Option.{unwrap_or}
use Rattle.ids.specs.Limits.{sites, most_threads, most_open, no_ticket}
use Rattle.lists.specs.Pick.{tell, first_place}
use Rattle.moves.specs.declared.Running.{Running}
use Rattle.model.specs.Site.{spare}
use Rattle.model.specs.Plan.{Record, threads}
use Rattle.model.specs.Net.{Call, has_node, site_of, level_of, has, counts, ticket_of, admissible, opened, closed, to_wake, woken}
use Rattle.model.specs.NetRules.{Book}
use Rattle.model.specs.Steady.{Firm, Newcomer, Ending}

-- an array holds a number of each open call, in their order, and zeros behind them
pub record Tells (number : Call → ℕ) (cs : List Call) (numbers : List ℕ) : Type 0 where
  pub whole : length numbers ≡ most_open
  pub each : (i : ℕ) → get_or numbers i 0 ≡ tell number cs i

abbrev pub ticket_number : Call → ℕ
ticket_number c = c.ticket

abbrev pub parent_number : Call → ℕ
parent_number c = c.parent

abbrev pub node_number : Call → ℕ
node_number c = c.node

-- a call's key: 0 where it is active, else one more than the place of its room
unfoldable pub key_of : List Record → Call → ℕ
key_of rs c = cond c.active 0 (most_threads * site_of rs c.node + level_of rs c.node + 1)

-- how far a level is from full, or no limit, 255, at or above the threads
unfoldable pub room_byte : ℕ → List ℕ → ℕ → ℕ
room_byte T a k = cond (ltb k T) (spare T a k) 255

-- an array holds that of each site and level
pub record RoomsTell (rs : List Record) (book : Book) (rooms : List ℕ) : Type 0 where
  pub whole : length rooms ≡ sites * most_threads
  pub each : (s k : ℕ) → s < sites → k < most_threads → get_or rooms (most_threads * s + k) 0 ≡ room_byte (threads rs s) (book s) k

-- the arrays of a run
pub record Arrays : Type 0 where
  pub tickets : List ℕ
  pub parents : List ℕ
  pub keys : List ℕ
  pub nodes : List ℕ
  pub rooms : List ℕ

abbrev pub arrays : List ℕ → List ℕ → List ℕ → List ℕ → List ℕ → Arrays
arrays tickets parents keys nodes rooms = record { tickets = tickets; parents = parents; keys = keys; nodes = nodes; rooms = rooms }

-- what a run holds
abbrev pub arrays_of : Running → Arrays
arrays_of r = arrays r.table.tickets r.table.parents r.table.keys r.table.nodes r.rooms.left

-- a ticket, or the word for none
abbrev pub served_told : Option ℕ → ℕ
served_told answered = unwrap_or answered no_ticket

-- the ticket of a call, or none
abbrev pub ticket_given : Maybe Call → Option ℕ
ticket_given none = None
ticket_given (some c) = Some c.ticket

-- the arrays hold the open calls of a net, which keep every rule but perhaps the one on waiting calls
pub record Held (rs : List Record) (cs : List Call) (a : Arrays) (used : ℕ) : Type 0 where
  pub of_tickets : Tells ticket_number cs a.tickets
  pub of_parents : Tells parent_number cs a.parents
  pub of_keys : Tells (key_of rs) cs a.keys
  pub of_nodes : Tells node_number cs a.nodes
  pub of_rooms : RoomsTell rs (counts rs cs) a.rooms
  pub count : used ≡ length cs
  pub firm : Firm rs cs

-- a node's site, its level and the threads of the site
pub record Placed (rs : List Record) (node site level most : ℕ) : Type 0 where
  pub known : has_node rs node ≡ true
  pub site_is : site ≡ site_of rs node
  pub level_is : level ≡ level_of rs node
  pub threads_are : most ≡ threads rs site

-- a call that may be opened, at a node with this site, level and threads
pub record CanOpen (rs : List Record) (cs : List Call) (a : Arrays) (used parent ticket node site level most : ℕ) : Type 0 where
  pub held : Held rs cs a used
  pub fits : Newcomer rs cs parent ticket node
  pub placed : Placed rs node site level most

-- some net's
abbrev pub Openable : Arrays → ℕ → ℕ → ℕ → ℕ → ℕ → ℕ → ℕ → Type 0
Openable a used parent ticket node site level most = (rs : List Record) × (cs : List Call) × CanOpen rs cs a used parent ticket node site level most

-- the answer, and the arrays afterwards, of whichever net they held
abbrev pub Opens : Arrays → Arrays → Bool → ℕ → ℕ → ℕ → ℕ → ℕ → ℕ → ℕ → Type 0
Opens a b active used parent ticket node site level most =
    (rs : List Record) (cs : List Call) → CanOpen rs cs a used parent ticket node site level most
    → (active ≡ admissible rs cs node) × Held rs (opened rs cs parent ticket node) b (used + 1)

-- a call that may be closed, at a place of the table, with the site and the level of its node
pub record CanClose (rs : List Record) (cs : List Call) (ticket : ℕ) (gone : Call) (a : Arrays) (used at site level : ℕ) : Type 0 where
  pub held : Held rs cs a used
  pub ending : Ending cs ticket gone
  pub place : at ≡ first_place (has ticket) cs
  pub site_is : site ≡ site_of rs gone.node
  pub level_is : level ≡ level_of rs gone.node

abbrev pub Closable : Arrays → ℕ → ℕ → ℕ → ℕ → Type 0
Closable a used at site level =
    (rs : List Record) × (cs : List Call) × (ticket : ℕ) × (gone : Call) × CanClose rs cs ticket gone a used at site level

abbrev pub Closes : Arrays → Arrays → ℕ → ℕ → ℕ → ℕ → Type 0
Closes a b used at site level =
    (rs : List Record) (cs : List Call) (ticket : ℕ) (gone : Call) → CanClose rs cs ticket gone a used at site level
    → Held rs (closed cs ticket) b (used - 1)

-- a site whose oldest waiter that may be admitted is to be served
pub record CanServe (rs : List Record) (cs : List Call) (a : Arrays) (used site most : ℕ) : Type 0 where
  pub held : Held rs cs a used
  pub site_inside : site < sites
  pub threads_are : most ≡ threads rs site

abbrev pub Servable : Arrays → ℕ → ℕ → ℕ → Type 0
Servable a used site most = (rs : List Record) × (cs : List Call) × CanServe rs cs a used site most

abbrev pub Serves : Arrays → Arrays → Option ℕ → ℕ → ℕ → ℕ → Type 0
Serves a b answered used site most =
    (rs : List Record) (cs : List Call) → CanServe rs cs a used site most
    → (answered ≡ ticket_given (to_wake rs cs site)) × Held rs (woken rs cs site) b used
