-- What the constructors of the four numbers answer. An answer is told as document 01 numbers it: the refusal's number, or 0 where nothing
-- is refused, and then the values. Assumes nothing.
use Rattle.std.specs.Prelude.{ℕ, Bool, true, false, not, List, [], ◌∷◌, ltb, eqb, Option, Some, None}
use Rattle.ids.specs.Limits.{sites, most_threads, nodes, no_ticket}
use Rattle.ids.specs.declared.Site.{Site}
use Rattle.ids.specs.declared.Node.{Node}
use Rattle.ids.specs.declared.Level.{Level}
use Rattle.ids.specs.declared.Ticket.{Ticket}

-- an answer's number and its values
abbrev pub Told : Type 0
Told = List ℕ

-- the number that was made, or the refusal's
abbrev pub told_made : {T : Type 0} → (T → ℕ) → ℕ → Option T → Told
told_made number refusal (Some x) = 0 ∷ number x ∷ []
told_made number refusal None = refusal ∷ []

-- refusal 4: "site above 15"
abbrev pub told_made_site : Option Site → Told
told_made_site = told_made (λ (s : Site). s.0) 4

-- refusal 4: "node above 63"
abbrev pub told_made_node : Option Node → Told
told_made_node = told_made (λ (n : Node). n.0) 4

-- refusal 6: a level of 64 is not below the threads of any site
abbrev pub told_made_level : Option Level → Told
told_made_level = told_made (λ (l : Level). l.0) 6

-- refusal 20: "the new ticket is 0"
abbrev pub told_made_ticket : Option Ticket → Told
told_made_ticket = told_made (λ (t : Ticket). t.0) 20

-- the number where it is in range, else the refusal
abbrev pub made : Bool → ℕ → ℕ → Told
made true refusal number = 0 ∷ number ∷ []
made false refusal number = refusal ∷ []

abbrev pub site_made : ℕ → Told
site_made number = made (ltb number sites) 4 number

abbrev pub node_made : ℕ → Told
node_made number = made (ltb number nodes) 4 number

abbrev pub level_made : ℕ → Told
level_made number = made (ltb number most_threads) 6 number

abbrev pub ticket_made : ℕ → Told
ticket_made number = made (not (eqb number no_ticket)) 20 number
