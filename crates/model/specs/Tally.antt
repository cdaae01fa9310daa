-- What is counted along a run of commands: document 01, "At each site, admissions so far less returns so far equal its active calls"; and the returns
-- that empty a net. Assumes nothing.
use Rattle.std.specs.Prelude.{ℕ, ◌+◌, ◌≡◌, Bool, true, false, not, ◌&&◌, List, [], ◌∷◌, eqb}
use Rattle.ids.specs.Limits.{no_ticket}
use Rattle.lists.specs.Count.{one}
use Rattle.lists.specs.Pick.{count}
use Rattle.model.specs.Net.{Core, site_of, lookup, node_of, active_on}
use Rattle.model.specs.Command.{Command, start, call, return, take_back, Answer, refused, active, waiting, ended, fault, step}

-- "its active calls"
abbrev pub active_calls : Core → ℕ → ℕ
active_calls net s = count (active_on net.plan s) net.calls

-- an answer that tells of a call that was given a thread, or of one that gave it back
abbrev pub admits : Command → Answer → Bool
admits c (refused n) = false
admits c active = true
admits c (waiting k) = false
admits c (ended t) = not (eqb t no_ticket)

abbrev accepts : Answer → Bool
accepts (refused n) = false
accepts active = true
accepts (waiting k) = true
accepts (ended t) = true

abbrev pub returns : Command → Answer → Bool
returns (start ticket node) a = false
returns (call parent ticket node) a = false
returns (return ticket) a = accepts a
returns (take_back ticket) a = false

-- the site that a command is about, a call's being the called one
abbrev pub command_site : Core → Command → ℕ
command_site net (start ticket node) = site_of net.plan node
command_site net (call parent ticket node) = site_of net.plan node
command_site net (return ticket) = site_of net.plan (node_of (lookup net.calls ticket))
command_site net (take_back ticket) = site_of net.plan (node_of (lookup net.calls ticket))

-- how many answers of a run tell so of a site
abbrev pub tally : (Command → Answer → Bool) → ℕ → Core → List Command → ℕ
tally tells s net [] = 0
tally tells s net (c ∷ rest) = one (eqb (command_site net c) s && tells c (step net c).answer) + tally tells s (step net c).core rest

-- each return of the tickets is accepted, one after the other
abbrev pub AllAccepted : Core → List ℕ → Type 0
AllAccepted net [] = Unit {0}
AllAccepted net (t ∷ ts) = (fault net (return t) ≡ 0) × AllAccepted (step net (return t)).core ts

abbrev pub all_returns : List ℕ → List Command
all_returns [] = []
all_returns (t ∷ ts) = return t ∷ all_returns ts
