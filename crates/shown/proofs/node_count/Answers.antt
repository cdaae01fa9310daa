-- `shown::node_count` meets its contract: it counts the entries that stand for a record. Assumes nothing.
use mathlib.Core.Path.{◌≡◌, ◌∙◌}
use Rattle.std.proofs.Common.{rules}
use Rattle.std.specs.List.{count_by}
use Rattle.model.specs.PlanValue.{Sized, somewhere}
use Rattle.shown.proofs.CountedLaws.{nodes_counted}
use Rattle.shown.proofs.node_count.Goals as goal

pub returns : goal.returns
returns c =
    let counted : c.count.result ≡ count_by (somewhere) c.args.plan.places = search rules in
    let sized : Sized c.args.plan = search rules in
    counted ∙ nodes_counted c.args.plan sized
