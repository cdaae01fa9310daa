-- `cycles::path_rows` meets its contract. The loop's invariant: the rows of the nodes below n have taken their steps; the steps over the two arrays are those of the
-- plan's records. Assumes nothing.
use native.Mathlib.Omega.{arith}
use mathlib.Core.Path.{◌≡◌, subst}
use borrow.Author.Rules.{rules}
use Rattle.ids.specs.Limits.{nodes}
use Rattle.model.specs.PlanValue.{Sized}
use Rattle.cycles.proofs.StepLaws.{SteppingRows, rows_all, rows_plan}
use Rattle.cycles.proofs.path_rows.Goals as goal

pub returns : goal.returns
returns c = let p = c.args.plan in
    let all : c.loop-n.n ≡ nodes = omega (arith, c.loop-n.invariant.up_to, c.loop-n-test.false) in
    let sized : Sized p = search rules in
    rows_plan p sized _ _
    (rows_all c.args.calls.rows c.loop-n.row-items p.places p.levels
    (subst (SteppingRows c.args.calls.rows c.loop-n.row-items p.places p.levels) all c.loop-n.invariant))
