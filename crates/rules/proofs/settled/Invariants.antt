-- `rules::settled` meets its contract: whichever net the arrays hold, nobody could be woken at the sites before the loop's. Assumes nothing.
use mathlib.Core.List.{List}
use Rattle.model.specs.Plan.{Record}
use Rattle.model.specs.Net.{Call}
use Rattle.rules.specs.Rules.{SettledSeen}
use Rattle.rules.proofs.SettledLaws.{AsleepTo}
use Rattle.rules.proofs.settled.Given as goal

abbrev pub invariant-loop-site : goal.invariant-loop-site
invariant-loop-site l =
    (rs : List Record) (cs : List Call) → SettledSeen rs cs l.running.table.keys l.running.rooms.left l.running.table.used l.plan.threads
    → AsleepTo rs cs l.site
