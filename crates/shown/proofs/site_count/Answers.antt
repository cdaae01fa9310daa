-- `shown::site_count` meets its contract: it counts the entries that stand for a record. Assumes nothing.
use mathlib.Core.Path.{◌≡◌, ◌∙◌}
use mathlib.Core.Bool.{not}
use lib.Dec.{eqb}
use Rattle.std.proofs.Common.{rules}
use Rattle.std.specs.List.{count_by}
use Rattle.model.specs.PlanValue.{Sized}
use Rattle.shown.proofs.CountedLaws.{sites_counted}
use Rattle.shown.proofs.site_count.Goals as goal

pub returns : goal.returns
returns c =
    let counted : c.count.result ≡ count_by (λ t. not (eqb t 0)) c.args.plan.threads = search rules in
    let sized : Sized c.args.plan = search rules in
    counted ∙ sites_counted c.args.plan sized
