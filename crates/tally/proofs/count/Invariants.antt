-- `tally::count` meets its contract: whichever calls the arrays hold, the counts up to the loop's place are those of the calls before it. Assumes nothing.
use mathlib.Core.List.{List}
use lib.ListN.{take}
use Rattle.model.specs.Plan.{Record}
use Rattle.model.specs.Net.{Call}
use Rattle.tally.specs.Tally.{CountsTell, Counting}
use Rattle.tally.proofs.count.Given as goal

abbrev pub invariant-loop-i : goal.invariant-loop-i
invariant-loop-i l =
    (rs : List Record) (cs : List Call) → Counting rs cs l.table.keys l.table.nodes l.table.used l.plan.places l.plan.levels
    → CountsTell rs (take l.i cs) l.counts
