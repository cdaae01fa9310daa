-- What is shown of a plan, as a list of bytes: the first line of the bench program, and where the end record was reached a line for each listed node.
-- Assumes nothing.
use Rattle.std.specs.Prelude.{ℕ, zero, suc, ◌+◌, ◌*◌, ◌≡◌, ◌⊎◌, Bool, true, false, List, [], ◌++◌, eqb, get_or}
use Rattle.ids.specs.Limits.{nodes}
use Rattle.model.specs.Plan.{Record, place, present}
use Rattle.model.specs.PlanValue.{somewhere}
use Rattle.model.specs.Reading.{Reading, accepted, refused_at, read, scanned}
use Rattle.model.specs.Text.{Text, ascii, decimal, spaced, newline}
use Rattle.shown.specs.Heading.{heading}
use Rattle.shown.specs.Dependence.{node_depends}

-- the texts of the numbers below k, one after the other
unfoldable pub in_turn : (ℕ → Text) → ℕ → Text
in_turn text_of zero = []
in_turn text_of (suc k) = in_turn text_of k ++ text_of k

-- a space and m, where it is to be named
abbrev pub item : Bool → ℕ → Text
item true m = spaced m
item false m = []

-- the nodes that are to be named in a line
unfoldable pub items : (ℕ → Bool) → ℕ → Text
items row k = in_turn (λ m. item (row m) m) k

-- the line of n, where it is listed: its number, a colon, and the nodes that it depends on
unfoldable pub node_text : Bool → (ℕ → Bool) → ℕ → Text
node_text true row n = decimal n ++ ascii ":" ++ items row nodes ++ newline
node_text false row n = []

-- the lines of the nodes below k
unfoldable pub node_texts : (ℕ → Bool) → (ℕ → ℕ → Bool) → ℕ → Text
node_texts listed depends k = in_turn (λ n. node_text (listed n) (depends n) n) k

-- the lines of a plan's nodes
unfoldable pub plan_text : List Record → Text
plan_text rs = node_texts (λ n. present (place rs n)) (node_depends rs) nodes

-- where a reading without the checks on the whole plan is accepted, the end record was reached
abbrev pub behind_end : Reading → Text
behind_end (accepted rs used) = plan_text rs
behind_end (refused_at number offset) = []

-- that is where the reading is accepted, or refused 7 or 8
abbrev pub Ended : Reading → Type 0
Ended (accepted rs used) = Unit {0}
Ended (refused_at number offset) = (number ≡ 7) ⊎ (number ≡ 8)

-- the whole text for some bytes
unfoldable pub shown_text : List ℕ → Text
shown_text bytes = heading (read bytes) ++ behind_end (scanned bytes)

-- The same two tests as the code has them: a node's place, and the byte of a pair in the table of dependences

abbrev pub is_listed : List ℕ → ℕ → Bool
is_listed places n = somewhere (get_or places n 0)

abbrev pub told_on : List ℕ → ℕ → ℕ → Bool
told_on cells n m = eqb (get_or cells (nodes * n + m) 0) 1
