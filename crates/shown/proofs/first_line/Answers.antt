-- `shown::first_line` meets its contract: of a plan that is accepted the line has its counts, and of one that is refused the refusal. Assumes nothing.
use Rattle.text.proofs.PutLaws.{put_as}
use Rattle.shown.proofs.HeadingLaws.{accepted_line, refused_line}
use Rattle.shown.proofs.first_line.Goals as goal

pub returns-in-Ok-clause-put : goal.returns-in-Ok-clause-put
returns-in-Ok-clause-put c =
    put_as (accepted_line c.args.read c.in-Ok.used _ _ c.in-Ok.is c.site_count.ensures c.node_count.ensures) c.plan_line.ensures.put

pub returns-in-Err-clause-put : goal.returns-in-Err-clause-put
returns-in-Err-clause-put c = put_as (refused_line c.args.read c.in-Err.fault _ c.in-Err.is c.refusal_number.ensures) c.plan_refused_line.ensures.put
