-- `rules::nodes_known` meets its contract: the chain's test of each open node is the plan's of the call there. Assumes nothing.
use Rattle.std.proofs.Common.{rules, tests, ◌∙◌}
use Rattle.std.proofs.lemmas.Iterator.{YieldsList-from_slice, YieldsList-from_take}
use Rattle.std.proofs.lemmas.Iterator.Search.{all_from_yields_List}
use Rattle.record.specs.Step.{listed_node}
use Rattle.rules.proofs.NodeLaws.{all_known}
use Rattle.rules.proofs.nodes_known.Goals as goal

pub returns : goal.returns
returns c = λ rs cs seen.
    all_from_yields_List (listed_node c.args.plan.now.places) _ _ c.all.result c.all.ensures.ran
    (YieldsList-from_take c.args.table.now.used (YieldsList-from_slice c.args.table.now.nodes cc) cc)
    (λ x b q k. search (rules, tests))
    ∙ all_known seen
