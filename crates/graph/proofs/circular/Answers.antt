-- `graph::circular` meets its contract: the nodes are asked in turn, and where none is closed backwards no edge is. Assumes nothing.
use mathlib.Core.Path.{refl}
use borrow.Author.Rules.{rules}
use Rattle.std.proofs.lemmas.Iterator.{cases_from_any, YieldsList-from_range}
use Rattle.ids.specs.Limits.{nodes}
use Rattle.graph.specs.Reached.{ClosedBack}
use Rattle.graph.proofs.ReachLaws.{NotClosed, closed_here, open_here, each_asked}
use Rattle.graph.proofs.circular.Goals as goal

pub returns : goal.returns
returns c = let edges = c.args.edges.now.rows in
    let paths = c.args.paths.now.rows in
    each_asked edges paths (search rules) c.any.result
    (cases_from_any _ _ c.any.result (λ n. ClosedBack edges paths) (NotClosed edges paths) c.any.ensures.ran (YieldsList-from_range 0 nodes nodes refl refl)
    (λ x q k. search (rules, closed_here))
    (λ x q k. (search rules, search (rules, open_here))))
