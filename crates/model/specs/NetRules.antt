-- The net rules: document 01, "Starts, calls, returns", behind its table. Assumes nothing.
use Rattle.std.specs.Prelude.{ℕ, ◌≤◌, ◌<◌, ◌≡◌, Bool, true, false, not, ◌&&◌, ◌||◌, length, leb, eqb}
use mathlib.Core.List.{List, [], ◌∷◌, Memᴰ}
use Rattle.std.proofs.Math.Option.{Option, none, some}
use Rattle.ids.specs.Limits.{sites, no_ticket, most_open}
use Rattle.lists.specs.Count.{every}
use Rattle.lists.specs.Pick.{count, all}
use Rattle.model.specs.Site.{lawful}
use Rattle.model.specs.Plan.{Record, threads, has_edge, six, passes, first_fault}
use Rattle.model.specs.Net.{Call, Core, has_node, has, lookup, counts, admissible}

-- what a net keeps beside its core, so as not to work it out anew: the active calls of each level, for each site
abbrev pub Book : Type 0
Book = ℕ → List ℕ

-- "every parent is open and active, with the edge in the plan"
abbrev pub parent_stands : List Record → Option Call → ℕ → Bool
parent_stands rs none node = false
parent_stands rs (some p) node = p.active && has_edge rs p.node node

unfoldable pub parent_kept : List Record → List Call → Call → Bool
parent_kept rs cs c = eqb c.parent no_ticket || parent_stands rs (lookup cs c.parent) c.node

-- a call that waits and could be given a thread
unfoldable pub could_go : List Record → List Call → Call → Bool
could_go rs cs c = not c.active && admissible rs cs c.node

pub record NetRules (net : Core) (book : Book) : Type 0 where
  -- "the plan's records pass checks 3 to 6 and 9"
  pub plan_passes : passes six net.plan ≡ true
  -- "open tickets differ"
  pub tickets_differ : (t : ℕ) → count (has t) net.calls ≤ 1
  -- "and none is 0"
  pub no_ticket_0 : count (has no_ticket) net.calls ≡ 0
  -- "every open call's node is in the plan"
  pub nodes_known : (c : Call) → Memᴰ c net.calls → has_node net.plan c.node ≡ true
  -- "every parent is open and active, with the edge in the plan"
  pub parents_kept : (c : Call) → Memᴰ c net.calls → parent_kept net.plan net.calls c ≡ true
  -- "each site's counts are those of its active calls"
  pub counts_kept : (s : ℕ) → s < sites → book s ≡ counts net.plan net.calls s
  -- "each site is lawful"
  pub sites_lawful : (s : ℕ) → lawful (threads net.plan s) (counts net.plan net.calls s) ≡ true
  -- "no waiting call may be admitted"
  pub settled : (c : Call) → Memᴰ c net.calls → could_go net.plan net.calls c ≡ false
  -- "At most 256 open calls in the net"
  pub few_open : length net.calls ≤ most_open

-- "each site's waiting order holds each of its waiting calls once and nothing else" is no field: the order is read off the calls, so that it holds
-- of every net whose tickets differ (`order-holds`, `order_once`, of OrderLaws)

-- the book as the core has it
abbrev pub own_book : Core → Book
own_book net s = counts net.plan net.calls s

-- a net that keeps the rules
abbrev pub Keeps : Core → Type 0
Keeps net = NetRules net (own_book net)

-- Which rule is broken: their tests, each with its place in 01's sentence, where the waiting orders stand at 8; a table that is too long is 9, and
-- comes first, since nothing is read of it

abbrev pub same_list : List ℕ → List ℕ → Bool
same_list [] [] = true
same_list [] (y ∷ ys) = false
same_list (x ∷ xs) [] = false
same_list (x ∷ xs) (y ∷ ys) = eqb x y && same_list xs ys

abbrev pub own_ticket : List Call → Call → Bool
own_ticket cs c = leb (count (has c.ticket) cs) 1

abbrev pub some_ticket : Call → Bool
some_ticket c = not (eqb c.ticket no_ticket)

unfoldable pub tickets_kept : List Call → Bool
tickets_kept cs = all (λ c. own_ticket cs c && some_ticket c) cs

unfoldable pub book_kept : Core → Book → Bool
book_kept net book = every sites (λ s. same_list (book s) (counts net.plan net.calls s))

unfoldable pub all_lawful : Core → Bool
all_lawful net = every sites (λ s. lawful (threads net.plan s) (counts net.plan net.calls s))

unfoldable pub rule_tests : Core → Book → List (Bool × ℕ)
rule_tests net book =
    (leb (length net.calls) most_open, 9)
    ∷ (passes six net.plan, 1)
    ∷ (tickets_kept net.calls, 2)
    ∷ (all (λ c. has_node net.plan c.node) net.calls, 3)
    ∷ (all (parent_kept net.plan net.calls) net.calls, 4)
    ∷ (book_kept net book, 5)
    ∷ (all_lawful net, 6)
    ∷ (all (λ c. not (could_go net.plan net.calls c)) net.calls, 7)
    ∷ []

-- the place of the first rule that is broken, 0 where all are kept
unfoldable pub broken_rule : Core → Book → ℕ
broken_rule net book = first_fault (rule_tests net book)
