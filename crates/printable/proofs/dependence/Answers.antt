-- `printable::dependence` meets its contract. The loop's invariant: the rows of the nodes below n are written; they tell what the plan's rows say.
-- Assumes nothing.
use native.Mathlib.Omega.{arith}
use mathlib.Core.Path.{◌≡◌, subst}
use borrow.Author.Rules.{rules}
use Rattle.ids.specs.Limits.{nodes}
use Rattle.model.specs.Graph.{either, Depends}
use Rattle.model.specs.Plan.{has_edge, site_steps}
use Rattle.model.specs.PlanValue.{Sized, records_of}
use Rattle.cycles.specs.Within.{within_nodes}
use Rattle.cycles.proofs.WithinLaws.{RowsWhole, paths_tell}
use Rattle.printable.proofs.TellLaws.{Filling, filling_more, filled_tells}
use Rattle.printable.proofs.DependsLaws.{rows_depend}
use Rattle.printable.proofs.dependence.Goals as goal

pub loop-n-preserved : goal.loop-n-preserved
loop-n-preserved c = filling_more c.depended.result c.loop-n.invariant c.loop-n-test.true c.depended.ensures c.put_row.ensures

pub returns : goal.returns
returns c = let p = c.args.plan in
    let edges = c.call_rows-calls.result.rows in
    let paths = c.path_rows-paths.result.rows in
    let calls = has_edge (records_of p) in
    let steps = site_steps (records_of p) in
    let sized : Sized p = search rules in
    let calling : RowsWhole edges calls = record { is = c.call_rows-calls.ensures; whole = search rules; small = λ n. search rules } in
    let pathing : RowsWhole paths (either calls steps) =
    record {
      is = paths_tell edges paths calls steps c.call_rows-calls.ensures c.path_rows-paths.ensures;
      whole = search rules;
      small = λ n. search rules;
    } in
    let all : c.loop-n.n ≡ nodes = omega (arith, c.loop-n.invariant.up_to, c.loop-n-test.false) in
    filled_tells (Depends (within_nodes calls) steps) (subst (Filling edges paths c.loop-n.table.cells) all c.loop-n.invariant)
    (rows_depend p sized calling pathing)
