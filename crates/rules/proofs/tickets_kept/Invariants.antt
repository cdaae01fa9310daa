-- `rules::tickets_kept` meets its contract: whichever calls the array holds, each ticket before the loop's place is found first at its own. Assumes nothing.
use mathlib.Core.List.{List}
use Rattle.model.specs.Net.{Call}
use Rattle.rules.specs.Rules.{TicketsSeen}
use Rattle.rules.proofs.TicketLaws.{OwnTo}
use Rattle.rules.proofs.tickets_kept.Given as goal

abbrev pub invariant-loop-i : goal.invariant-loop-i
invariant-loop-i l = (cs : List Call) → TicketsSeen cs l.table.tickets l.table.used → OwnTo cs l.i
