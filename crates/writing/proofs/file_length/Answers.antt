-- `writing::file_length` meets its contract: the counts are those of the plan's records, and small. Assumes nothing.
use native.Mathlib.Omega.{arith}
use Rattle.model.proofs.FileLaws.{file_length}
use Rattle.shown.specs.Heading.{site_count, node_count}
use Rattle.shown.proofs.CountedLaws.{sites_few, nodes_few}
use Rattle.model.specs.PlanValue.{Sized}
use Rattle.std.proofs.Common.{rules}
use Rattle.writing.proofs.file_length.Goals as goal

pub overflow_mul-result : goal.overflow_mul-result
overflow_mul-result c = let sized : Sized c.args.plan = search rules in omega (arith, c.site_count-sites.ensures, sites_few _ sized)

pub overflow_mul-result-2 : goal.overflow_mul-result-2
overflow_mul-result-2 c = let sized : Sized c.args.plan = search rules in omega (arith, c.node_count-nodes.ensures, nodes_few _ sized)

pub overflow_add-result : goal.overflow_add-result
overflow_add-result c =
    let sized : Sized c.args.plan = search rules in
    omega (arith, c.site_count-sites.ensures, c.node_count-nodes.ensures, sites_few _ sized, nodes_few _ sized)

pub overflow_add-result-2 : goal.overflow_add-result-2
overflow_add-result-2 c =
    let sized : Sized c.args.plan = search rules in
    omega (arith, c.site_count-sites.ensures, c.node_count-nodes.ensures, sites_few _ sized, nodes_few _ sized)

pub overflow_add-result-3 : goal.overflow_add-result-3
overflow_add-result-3 c =
    let sized : Sized c.args.plan = search rules in
    omega (arith, c.site_count-sites.ensures, c.node_count-nodes.ensures, sites_few _ sized, nodes_few _ sized)

pub returns : goal.returns
unfolding site_count node_count
returns c = omega (arith, file_length c.args.plan c.requires, c.node_count-nodes.ensures, c.site_count-sites.ensures)
