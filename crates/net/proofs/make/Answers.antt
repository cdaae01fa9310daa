-- `net::make` meets its contract: the audit's fault, and the plan that it keeps. Assumes nothing.
use Rattle.net.proofs.EmptyLaws.{made-is}
use Rattle.std.proofs.Common.{rules, ◌≡◌, cond, eqb, Ok, Err}
use Rattle.record.specs.Step.{told_check}
use Rattle.model.specs.declared.Refusal.{Refusal}
use Rattle.net.proofs.EmptyLaws.{answer_is}
use Rattle.net.proofs.make.Goals as goal

pub returns : goal.returns
returns c =
    let answer : c.map_err.result ≡ cond (eqb (told_check c.check-audited.result.checked) 0) (Ok tt) (Err Refusal.BrokenPlan) =
    search (rules, answer_is)
    in
    made-is c.args.plan c.check-audited.result _ _ c.check-audited.ensures answer c.empty.ensures
