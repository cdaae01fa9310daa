-- Where a ticket stands in a table of calls. Assumes nothing.
use Rattle.std.specs.Prelude.{ℕ, Bool, ◌&&◌, List, cond, length, get_or, ltb, eqb, Option, Some, None}
use Rattle.lists.specs.Count.{first}
use Rattle.value.specs.View.{spare}
use Rattle.value.specs.declared.Call.{Call}

-- a place inside the table whose call has this ticket
unfoldable pub has_at : List Call → ℕ → ℕ → Bool
has_at calls ticket i = ltb i (length calls) && eqb (get_or calls i spare).ticket.0 ticket

-- the first such place below `used`, else `used`
unfoldable pub place_in : List Call → ℕ → ℕ → ℕ
place_in calls used ticket = first used (has_at calls ticket)

-- a place below `used`, and none at it or past it
abbrev pub placed : ℕ → ℕ → Option ℕ
placed used at = cond (ltb at used) (Some at) None
