-- The customer's demands, as he wrote them, over the definitions: a record for each, a field for each of his sentences. What they speak of is defined in
-- Reading (a plan that is to be accepted), Net and Command; the theorems are in proofs/Demands. Assumes nothing.
use Rattle.std.specs.Prelude.{ℕ, ◌-◌, ◌≤◌, ◌<◌, ◌≡◌, ◌↔◌, true, false, cond, length}
use mathlib.Core.List.{List, [], ◌∷◌, ◌++◌, Memᴰ}
use Rattle.std.proofs.Math.Option.{some}
use Rattle.ids.specs.Limits.{no_ticket}
use Rattle.lists.specs.Pick.{count, found}
use Rattle.model.specs.Site.{may_admit, blocking}
use Rattle.model.specs.Plan.{Record, threads, encode}
use Rattle.model.specs.Reading.{accepted, refused_at, read, PlanOk}
use Rattle.model.specs.PlanValue.{empty_plan, reading_plan}
use Rattle.model.specs.Net.{Call, Core, empty_net, site_of, level_of, lookup, ticket_of, has_child, at_or_above, counts, waiting_order, admissible}
use Rattle.model.specs.Net.{newcomer, closed, woken}
use Rattle.model.specs.Command.{Command, start, call, return, take_back, refused, active, waiting, ended, order, fault, step, run}
use Rattle.model.specs.NetRules.{Keeps}
use Rattle.model.specs.Refusals.{rows, First}
use Rattle.model.specs.Tally.{AllAccepted, all_returns}

-- 1. "Every input gets an answer and every run ends .. No caller checks first": the definitions answer everything, and so does the code that is proved
-- to meet them

pub record Demand1 : Type 0 where
  -- "A refused plan gives back the empty plan"
  pub refused_plan : (bytes : List ℕ) (number offset : ℕ) → read bytes ≡ refused_at number offset → reading_plan (read bytes) ≡ empty_plan
  -- "a refused command changes nothing and gives the number from the table"
  pub refused_command : (net : Core) (command : Command) → (fault net command ≡ 0 → ⊥)
      → ((step net command).core ≡ net) × ((step net command).answer ≡ refused (fault net command)) × Memᴰ (fault net command) (order command)

-- 2

-- the call that a start or a call opens: its parent, or no ticket, its ticket and its node
pub data OpensCall : Command → ℕ → ℕ → ℕ → Type 0 where
  by_start : {ticket node : ℕ} → OpensCall (start ticket node) no_ticket ticket node
  by_call : {parent ticket node : ℕ} → OpensCall (call parent ticket node) parent ticket node

pub record Demand2 : Type 0 where
  -- "A plan is accepted exactly when the paper's condition on annotated call graphs and the file rules hold"
  pub plans : (bytes : List ℕ) (rs : List Record) (used : ℕ)
      → (read bytes ≡ accepted rs used) ↔ ((rest : List ℕ) × (bytes ≡ encode rs ++ rest) × (used ≡ length (encode rs)) × PlanOk rs)
  -- "Every start, call and return gets LIVE-P's answer": none is refused but where a row of the table says so, the first that does
  pub accepted_when : (net : Core) → Keeps net → (command : Command) → (fault net command ≡ 0) ↔ First 0 (rows net command)
  pub refused_when : (net : Core) → Keeps net → (command : Command) (n : ℕ) → Memᴰ n (order command)
      → (fault net command ≡ n) ↔ First n (rows net command)
  -- a start or a call that is accepted is active if the site stays lawful with one call more of its level, else waiting, with the highest full level at
  -- or below it (02, 1/14)
  pub opening_answer : (net : Core) (command : Command) (parent ticket node : ℕ) → OpensCall command parent ticket node → fault net command ≡ 0
      → (step net command).answer
      ≡ cond
      (may_admit (threads net.plan (site_of net.plan node)) (counts net.plan net.calls (site_of net.plan node)) (level_of net.plan node))
      active
      (waiting
      (blocking (threads net.plan (site_of net.plan node)) (counts net.plan net.calls (site_of net.plan node)) (level_of net.plan node)))
  -- "and leaves the state that the paper and the rules define": the call stands behind those opened before
  pub opening_state : (net : Core) (command : Command) (parent ticket node : ℕ) → OpensCall command parent ticket node → fault net command ≡ 0
      → (step net command).core ≡ record { plan = net.plan; calls = net.calls ++ (newcomer net.plan net.calls parent ticket node ∷ []) }
  -- ".. and return gets LIVE-P's answer, oldest admissible first": the call is gone, and of those that wait at its site the first that may be admitted
  -- is named
  pub return_answer : (net : Core) (ticket : ℕ) (gone : Call) → lookup net.calls ticket ≡ some gone → fault net (return ticket) ≡ 0
      → (step net (return ticket)).answer
      ≡ ended (ticket_of (found (λ c. admissible net.plan (closed net.calls ticket) c.node)
      (waiting_order net.plan (closed net.calls ticket) (site_of net.plan gone.node))))
  -- and it is active afterwards
  pub return_state : (net : Core) (ticket : ℕ) (gone : Call) → lookup net.calls ticket ≡ some gone → fault net (return ticket) ≡ 0
      → (step net (return ticket)).core
      ≡ record { plan = net.plan; calls = woken net.plan (closed net.calls ticket) (site_of net.plan gone.node) }
  -- 02, 4/14, a command beside these: the call that still waits leaves, the others keep their order, and nobody is admitted
  pub back_answer : (net : Core) (ticket : ℕ) → fault net (take_back ticket) ≡ 0 → (step net (take_back ticket)).answer ≡ ended no_ticket
  pub back_state : (net : Core) (ticket : ℕ) → fault net (take_back ticket) ≡ 0
      → (step net (take_back ticket)).core ≡ record { plan = net.plan; calls = closed net.calls ticket }

-- 3

-- what is demanded of a net at any moment
pub record Safe (net : Core) : Type 0 where
  -- "at each site with T threads, for each level k below T, at most T - k active calls have level k or higher"
  pub never_too_many : (s k : ℕ) → k < threads net.plan s → count (at_or_above net.plan s k) net.calls ≤ threads net.plan s - k
  -- "no waiting call could be given a thread at that moment"
  pub nobody_could_go : (c : Call) → Memᴰ c net.calls → c.active ≡ false → admissible net.plan net.calls c.node ≡ false
  -- "if any call is open, some active call has no open call beneath it"
  pub somebody_free : (c : Call) → Memᴰ c net.calls
      → (d : Call) × Memᴰ d net.calls × (d.active ≡ true) × (has_child net.calls d.ticket ≡ false)
      -- "so its return would be accepted next"
      × ((woken-ticket : ℕ) × ((step net (return d.ticket)).answer ≡ ended woken-ticket))

-- "From an empty net under an accepted plan, after any commands, refused ones too"
pub record Demand3 : Type 0 where
  pub always_safe : (rs : List Record) → PlanOk rs → (commands : List Command) → Safe (run (empty_net rs) commands)

-- What the installer hears from it: whatever stands open can be returned, one call after the other, until nothing does

pub record Drains : Type 0 where
  pub always : (rs : List Record) → PlanOk rs → (commands : List Command) →
      let net = run (empty_net rs) commands in
      (tickets : List ℕ) × (length tickets ≡ length net.calls) × AllAccepted net tickets × ((run net (all_returns tickets)).calls ≡ [])
