-- `rules::parents_kept` meets its contract: whichever calls the arrays hold, those before the loop's place have their parents. Assumes nothing.
use mathlib.Core.List.{List}
use Rattle.model.specs.Plan.{Record}
use Rattle.model.specs.Net.{Call}
use Rattle.model.specs.NetRules.{parent_kept}
use Rattle.rules.specs.Rules.{AllParentsSeen}
use Rattle.rules.proofs.CallLaws.{PassTo}
use Rattle.rules.proofs.parents_kept.Given as goal

abbrev pub invariant-loop-i : goal.invariant-loop-i
invariant-loop-i l =
    (rs : List Record) (cs : List Call) → AllParentsSeen rs cs l.table.tickets l.table.parents l.table.keys l.table.nodes l.table.used l.edges.rows
    → PassTo (parent_kept rs cs) cs l.i
