-- The table of document 01, "Starts, calls, returns", in its own words: what each number says of a net and a command, in the order of the command. A net
-- that keeps the rules gives the first that holds (`refused_exactly`, of RefusalRows). Assumes nothing.
use Rattle.std.specs.Prelude.{ℕ, ◌≡◌, true, false, cond, length, eqb}
use mathlib.Core.List.{List, [], ◌∷◌, Memᴰ}
use Rattle.ids.specs.Limits.{no_ticket, most_open}
use Rattle.model.specs.Plan.{edge}
use Rattle.model.specs.Records.{Listed}
use Rattle.model.specs.Net.{Call, Core}
use Rattle.model.specs.Command.{Command, start, call, return, take_back}

-- a call of this ticket is open; and it is active; and it waits
abbrev pub Open : Core → ℕ → Type 0
Open net ticket = (c : Call) × Memᴰ c net.calls × (c.ticket ≡ ticket)

abbrev pub Runs : Core → ℕ → Type 0
Runs net ticket = (c : Call) × Memᴰ c net.calls × (c.ticket ≡ ticket) × (c.active ≡ true)

abbrev pub Waits : Core → ℕ → Type 0
Waits net ticket = (c : Call) × Memᴰ c net.calls × (c.ticket ≡ ticket) × (c.active ≡ false)

-- a number of the table and when it is given
pub record Row : Type 1 where
  pub number : ℕ
  pub when : Type 0

abbrev pub row : ℕ → Type 0 → Row
row number when = record { number = number; when = when }

-- "the new ticket is 0"
abbrev pub row_20 : ℕ → Row
row_20 ticket = row 20 (ticket ≡ no_ticket)

-- "the new ticket is open"
abbrev pub row_21 : Core → ℕ → Row
row_21 net ticket = row 21 (Open net ticket)

-- "the plan has no such node"
abbrev pub row_22 : Core → ℕ → Row
row_22 net node = row 22 (Listed net.plan node → ⊥)

-- "the parent is not open (parent 0 included)"
abbrev pub row_23 : Core → ℕ → Row
row_23 net parent = row 23 (Open net parent → ⊥)

-- "the parent waits"
abbrev pub row_24 : Core → ℕ → Row
row_24 net parent = row 24 (Waits net parent)

-- "the plan has no such edge": from the parent's node to the called one
abbrev pub row_25 : Core → ℕ → ℕ → Row
row_25 net parent node =
    row 25 ((c : Call) → Memᴰ c net.calls → c.ticket ≡ parent → Memᴰ (edge c.node node) net.plan → ⊥)

-- "256 calls are open"
abbrev pub row_26 : Core → Row
row_26 net = row 26 (length net.calls ≡ most_open)

-- "return of a ticket that is not open"; of a taking back 02 says "27 if not open"
abbrev pub row_27 : Core → ℕ → Row
row_27 net ticket = row 27 (Open net ticket → ⊥)

-- "return of a waiting call"
abbrev pub row_28 : Core → ℕ → Row
row_28 net ticket = row 28 (Waits net ticket)

-- "return of a call with an open child"
abbrev pub row_29 : Core → ℕ → Row
row_29 net ticket = row 29 ((c : Call) × Memᴰ c net.calls × (c.parent ≡ ticket))

-- 02: "34 if active"
abbrev pub row_34 : Core → ℕ → Row
row_34 net ticket = row 34 (Runs net ticket)

-- "Order for a start: 20, 21, 22, 26. For a call: 20, 21, 23, 24, 22, 25, 26. For a return: 27, 28, 29"
abbrev pub rows : Core → Command → List Row
rows net (start ticket node) = row_20 ticket ∷ row_21 net ticket ∷ row_22 net node ∷ row_26 net ∷ []
rows net (call parent ticket node) =
    row_20 ticket
    ∷ row_21 net ticket
    ∷ row_23 net parent
    ∷ row_24 net parent
    ∷ row_22 net node
    ∷ row_25 net parent node
    ∷ row_26 net
    ∷ []
rows net (return ticket) = row_27 net ticket ∷ row_28 net ticket ∷ row_29 net ticket ∷ []
rows net (take_back ticket) = row_27 net ticket ∷ row_34 net ticket ∷ []

-- the row with the number n holds, and none before it does; for 0, none holds
abbrev pub First : ℕ → List Row → Type 0
First n [] = 0 ≡ n
First n (r ∷ rs) = cond (eqb r.number n) r.when ((r.when → ⊥) × First n rs)

-- What is handed in

-- "a net is to be made from a plan that breaks any of checks 3 to 9"
abbrev pub plan_refusal : ℕ
plan_refusal = 18

-- "a net is handed in, and it or its plan breaks a net rule"; it "comes before all others, for questions and room too"
abbrev pub net_refusal : ℕ
net_refusal = 19
