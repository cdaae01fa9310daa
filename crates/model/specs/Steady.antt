-- What is steady inside a command, for the proofs of the commands here and in the code's crates: the rules that every single change of the open
-- calls keeps, and what a command's tests leave of the call that comes or goes. No demand is stated by these names. Assumes nothing.
use Rattle.std.specs.Prelude.{ℕ, ◌≤◌, ◌<◌, ◌≡◌, true, false, ◌||◌, length, eqb}
use mathlib.Core.List.{List, Memᴰ}
use Rattle.std.proofs.Math.Option.{none, some}
use Rattle.ids.specs.Limits.{no_ticket, most_open}
use Rattle.lists.specs.Pick.{count}
use Rattle.model.specs.Site.{lawful}
use Rattle.model.specs.Plan.{Record, threads, six, passes}
use Rattle.model.specs.Net.{Call, has_node, has, lookup, has_child, counts}
use Rattle.model.specs.NetRules.{parent_stands, parent_kept}

-- each site is lawful
abbrev pub Lawful : List Record → List Call → Type 0
Lawful rs cs = (s : ℕ) → lawful (threads rs s) (counts rs cs s) ≡ true

-- every rule of a core but the one on waiting calls, which whole commands keep: each single change of the open calls keeps these
pub record Firm (rs : List Record) (cs : List Call) : Type 0 where
  pub pass : passes six rs ≡ true
  pub differ : (t : ℕ) → count (has t) cs ≤ 1
  pub none_0 : count (has no_ticket) cs ≡ 0
  pub known : (c : Call) → Memᴰ c cs → has_node rs c.node ≡ true
  pub kept : (c : Call) → Memᴰ c cs → parent_kept rs cs c ≡ true
  pub law : Lawful rs cs
  pub few : length cs ≤ most_open

-- what the tests of a start or a call leave of the newcomer
pub record Newcomer (rs : List Record) (cs : List Call) (parent ticket node : ℕ) : Type 0 where
  pub some_ticket : ticket ≡ no_ticket → ⊥
  pub new_ticket : lookup cs ticket ≡ none
  pub listed_node : has_node rs node ≡ true
  pub room_left : length cs < most_open
  pub parent_fits : (eqb parent no_ticket || parent_stands rs (lookup cs parent) node) ≡ true

-- a call that may leave the table: nobody is beneath it
pub record Leaver (cs : List Call) (ticket : ℕ) (c : Call) : Type 0 where
  pub stands : lookup cs ticket ≡ some c
  pub childless : has_child cs ticket ≡ false

-- what the tests of a return leave of the call that ends
pub record Ending (cs : List Call) (ticket : ℕ) (c : Call) : Type 0 where
  pub stands : lookup cs ticket ≡ some c
  pub runs : c.active ≡ true
  pub childless : has_child cs ticket ≡ false

-- what the tests of a taking back leave of the call that goes
pub record Withdrawn (cs : List Call) (ticket : ℕ) (c : Call) : Type 0 where
  pub stands : lookup cs ticket ≡ some c
  pub waits : c.active ≡ false
