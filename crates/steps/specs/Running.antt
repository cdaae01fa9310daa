-- What the arrays of a run hold of a net and of its plan, and what the commands and the questions make of it. For the contracts of `steps`. Assumes nothing.
use Rattle.std.specs.Prelude.{ℕ, ◌<◌, ◌≡◌, true, Option, Some, None, List, length, get_or}
use Rattle.std.specs.Option.{unwrap_or}
use Rattle.ids.specs.Limits.{sites, nodes, no_ticket}
use Rattle.model.specs.Plan.{Record, threads, six, passes}
use Rattle.model.specs.Net.{Call, Core, has_node, site_of, level_of, counts}
use Rattle.model.specs.NetRules.{Keeps}
use Rattle.model.specs.Steady.{Lawful}
use Rattle.model.specs.Command.{Command, start, call, return, take_back, fault, Outcome, step, ask, room_at}
use Rattle.moves.specs.Held.{Tells, key_of, RoomsTell, Arrays, arrays, Held}
use Rattle.faults.specs.Seen.{Listing, Edging, Ticketed, CallSeen}
use Rattle.text.specs.Lines.{Shown, of_answer, of_standing, of_room}

-- the lent threads of the sites
pub record Staffed (rs : List Record) (most-of : List ℕ) : Type 0 where
  pub whole : length most-of ≡ sites
  pub each : (s : ℕ) → s < sites → get_or most-of s 0 ≡ threads rs s

-- the plan's lent arrays say what its records say
pub record Planned (rs : List Record) (most-of places levels edges : List ℕ) : Type 0 where
  pub staffed : Staffed rs most-of
  pub listing : Listing rs places
  pub places_are : (n : ℕ) → has_node rs n ≡ true → get_or places n 0 ≡ site_of rs n
  pub levels_whole : length levels ≡ nodes
  pub levels_are : (n : ℕ) → has_node rs n ≡ true → get_or levels n 0 ≡ level_of rs n
  pub edging : Edging rs edges

-- the arrays hold a net that keeps the rules, and its plan
pub record Running (net : Core) (a : Arrays) (used : ℕ) (most-of places levels edges : List ℕ) : Type 0 where
  pub keeps : Keeps net
  pub held : Held net.plan net.calls a used
  pub planned : Planned net.plan most-of places levels edges

-- what a command answers and what it leaves
pub record Stepped (after : Outcome) (b : Arrays) (used : ℕ) (what : Shown) (most-of places levels edges : List ℕ) : Type 0 where
  pub says : what ≡ of_answer after.answer
  pub runs_on : Running after.core b used most-of places levels edges

-- A start or a call

abbrev pub entering : Option ℕ → ℕ → ℕ → Command
entering (Some parent) ticket node = call parent ticket node
entering None ticket node = start ticket node

-- the word that is stored for its parent
abbrev pub parent_word : Option ℕ → ℕ
parent_word parent = unwrap_or parent no_ticket

-- what stands in its way, told of whichever net the arrays hold
abbrev pub EntryFault : List ℕ → List ℕ → List ℕ → List ℕ → List ℕ → ℕ → Option ℕ → ℕ → ℕ → ℕ → Type 0
EntryFault tickets keys open-nodes places edges used parent ticket node number =
    (rs : List Record) (cs : List Call) → CallSeen rs cs tickets keys open-nodes places edges used
    → number ≡ fault (record { plan = rs; calls = cs }) (entering parent ticket node)

abbrev pub Enterable : Arrays → ℕ → List ℕ → List ℕ → List ℕ → List ℕ → Type 0
Enterable a used most-of places levels edges = (net : Core) × Running net a used most-of places levels edges

abbrev pub Enters : Arrays → Arrays → ℕ → ℕ → Shown → List ℕ → List ℕ → List ℕ → List ℕ → Option ℕ → ℕ → ℕ → Type 0
Enters a b used used-after what most-of places levels edges parent ticket node =
    (net : Core) → Running net a used most-of places levels edges
    → Stepped (step net (entering parent ticket node)) b used-after what most-of places levels edges

-- A return, which looks at no edge

abbrev pub Leavable : Arrays → ℕ → List ℕ → List ℕ → List ℕ → Type 0
Leavable a used most-of places levels = (net : Core) × (edges : List ℕ) × Running net a used most-of places levels edges

abbrev pub Leaves : Arrays → Arrays → ℕ → ℕ → Shown → List ℕ → List ℕ → List ℕ → ℕ → Type 0
Leaves a b used used-after what most-of places levels ticket =
    (net : Core) (edges : List ℕ) → Running net a used most-of places levels edges
    → Stepped (step net (return ticket)) b used-after what most-of places levels edges

-- A taking back, which looks at no room and nothing of the plan

abbrev pub Withdrawable : List ℕ → List ℕ → List ℕ → List ℕ → ℕ → Type 0
Withdrawable tickets parents keys open-nodes used =
    (net : Core) × (rooms most-of places levels edges : List ℕ) × Running net (arrays tickets parents keys open-nodes rooms) used most-of places levels edges

abbrev pub Withdraws : List ℕ → List ℕ → List ℕ → List ℕ → List ℕ → List ℕ → List ℕ → List ℕ → ℕ → ℕ → Shown → ℕ → Type 0
Withdraws tickets parents keys open-nodes tickets' parents' keys' open-nodes' used used-after what ticket =
    (net : Core) (rooms most-of places levels edges : List ℕ)
    → Running net (arrays tickets parents keys open-nodes rooms) used most-of places levels edges
    → Stepped (step net (take_back ticket)) (arrays tickets' parents' keys' open-nodes' rooms) used-after what most-of places levels edges

-- A question

-- what it looks at
pub record AskSeen (net : Core) (tickets keys : List ℕ) (used : ℕ) : Type 0 where
  pub calls_told : Ticketed net.plan net.calls tickets used
  pub of_keys : Tells (key_of net.plan) net.calls keys

abbrev pub Asks : List ℕ → List ℕ → ℕ → ℕ → Shown → Type 0
Asks tickets keys used ticket what = (net : Core) → AskSeen net tickets keys used → what ≡ of_standing (ask net ticket)

-- A room

pub record RoomSeen (net : Core) (rooms most-of : List ℕ) : Type 0 where
  pub pass : passes six net.plan ≡ true
  pub law : Lawful net.plan net.calls
  pub of_rooms : RoomsTell net.plan (counts net.plan net.calls) rooms
  pub staffed : Staffed net.plan most-of

abbrev pub RoomAsked : List ℕ → List ℕ → ℕ → ℕ → Shown → Type 0
RoomAsked rooms most-of site level what = (net : Core) → RoomSeen net rooms most-of → what ≡ of_room (room_at net site level)
