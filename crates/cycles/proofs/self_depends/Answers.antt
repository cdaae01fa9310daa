-- `cycles::self_depends` meets its contract: the circles of the rows are those of the plan. Assumes nothing.
use mathlib.Core.Logic.Iff
use borrow.Author.Rules.{rules}
use Rattle.model.specs.Graph.{either}
use Rattle.model.specs.Plan.{has_edge, site_steps}
use Rattle.model.specs.PlanValue.{Sized, records_of}
use Rattle.cycles.proofs.WithinLaws.{RowsWhole, paths_tell, circle_rows}
use Rattle.cycles.proofs.self_depends.Goals as goal

pub returns : goal.returns
returns c = let p = c.args.plan in
    let edges = c.call_rows-calls.result.rows in
    let paths = c.path_rows-paths.result.rows in
    let calls = has_edge (records_of p) in
    let steps = site_steps (records_of p) in
    let sized : Sized p = search rules in
    let calling : RowsWhole edges calls = record { is = c.call_rows-calls.ensures; whole = search rules; small = λ n. search rules } in
    let pathing : RowsWhole paths (either calls steps) =
    record {
      is = paths_tell edges paths calls steps c.call_rows-calls.ensures c.path_rows-paths.ensures;
      whole = search rules;
      small = λ n. search rules;
    } in
    Iff.trans c.circular.ensures (circle_rows p sized calling pathing)
