-- What a net's value says: the plan and the open calls, as the definitions speak of them, the counts that it keeps of each site, and which net rule it breaks.
-- Assumes nothing.
use Rattle.std.specs.Prelude.{ℕ, ◌+◌, ◌*◌, false, cond, List, get_or, ltb, Result, Ok, Err}
use Rattle.ids.specs.Limits.{most_threads, most_edges, no_ticket}
use Rattle.lists.specs.Tabled.{tabled}
use Rattle.model.specs.PlanValue.{records_of}
use Rattle.model.specs.Net.{Call, Core}
use Rattle.model.specs.NetRules.{Book, broken_rule}
use Rattle.value.specs.declared.Call.{Call as CallValue}
use Rattle.value.specs.declared.Net.{Net}
use Rattle.value.specs.declared.NetRule.{NetRule}

-- a call as the definitions have it
abbrev pub call_of : CallValue → Call
call_of c = record { ticket = c.ticket.0; parent = c.parent.0; node = c.node.0; active = c.active }

-- a place of the table that no call has
abbrev pub spare : CallValue
spare = record { ticket = record { 0 = no_ticket }; parent = record { 0 = no_ticket }; node = record { 0 = 0 }; active = false }

-- the first calls of a table, in their order
unfoldable pub first_calls : List CallValue → ℕ → List Call
first_calls calls n = tabled n (λ i. call_of (get_or calls i spare))

unfoldable pub core_of : Net → Core
core_of net = record { plan = records_of net.plan; calls = first_calls net.calls net.used }

-- the counts that the value keeps, site by site
unfoldable pub row_of : List ℕ → Book
row_of counts s = tabled most_threads (λ k. get_or counts (most_threads * s + k) 0)

-- The first net rule that a value breaks, or 0. Beyond what the rules say of the open calls, a count of edges that its arrays do not have breaks the rule on
-- the plan
unfoldable pub broken : Net → ℕ
broken net = cond (ltb most_edges net.plan.edges) 1 (broken_rule (core_of net) (row_of net.counts))

-- a rule's place in document 01's sentence, where the waiting orders stand at 8; a table that is too long is 9
abbrev pub rule_number : NetRule → ℕ
rule_number NetRule.Plan = 1
rule_number NetRule.Tickets = 2
rule_number NetRule.Nodes = 3
rule_number NetRule.Parents = 4
rule_number NetRule.Counts = 5
rule_number NetRule.Sites = 6
rule_number NetRule.Waiting = 7
rule_number NetRule.TooManyOpen = 9

-- the number of the rule that a test of the rules finds broken, 0 where it finds none
abbrev pub rule_told : Result Unit NetRule → ℕ
rule_told (Ok kept) = 0
rule_told (Err rule) = rule_number rule
