-- `plan::scan` meets its contract. The loop's invariant: the reading is on its way behind some passing records, which the plan holds.
-- The measure is the bytes left. Assumes nothing.
use native.Mathlib.Omega.{arith}
use mathlib.Core.Path.{◌≡◌, refl, ap, subst, ◌∙◌}
use Rattle.std.proofs.Common.{rules}
use Rattle.std.specs.Prelude.{Ok, Err}
use Rattle.model.specs.declared.PlanRecord.{PlanRecord}
use Rattle.plan.specs.Answers.{Turn}
use Rattle.plan.proofs.ReadLaws.{start, inside_bytes, end_stops, stopped, stepped}
use Rattle.plan.proofs.AnswerLaws.{refused_answers, accepted_answers}
use Rattle.plan.proofs.scan.Goals as goal

pub loop-next-init : goal.loop-next-init
loop-next-init c = start _ _ c.empty-none.ensures

pub returns-in_default : goal.returns-in_default
returns-in_default c =
    let on = c.loop-next in
    let why = c.in_default.field-0.why in
    let fault : c.passing.result ≡ Err why = search rules in
    let told : c.map.result ≡ Err (record { why = why; offset = on.at }) = search rules in
    refused_answers why on.at told c.empty-none.ensures
    (stopped c.args.bytes.now on.plan on.last on.at on.invariant why (subst (Turn c.args.bytes.now on.at on.plan on.last) fault c.passing.ensures))

pub returns-in-End : goal.returns-in-End
returns-in-End c =
    let on = c.loop-next in
    let behind = c.in-Ok.field-0.behind in
    let found : c.passing.result ≡ Ok c.in-Ok.field-0 = search rules in
    let turn = subst (Turn c.args.bytes.now on.at on.plan on.last) found c.passing.ensures in
    accepted_answers on.invariant.records behind refl on.invariant.plan_is
    (end_stops c.args.bytes.now on.plan on.last on.at on.invariant behind
    (turn.0 ∙ ap (λ (r : PlanRecord). Ok (record { next = r; behind = behind })) c.in-End.is))

pub loop-next-smaller : goal.loop-next-smaller
loop-next-smaller c =
    let on = c.loop-next in
    let found : c.passing.result ≡ Ok c.in-Ok.field-0 = search rules in
    let turn = subst (Turn c.args.bytes.now on.at on.plan on.last) found c.passing.ensures in
    let step = stepped c.args.bytes.now on.plan on.last on.at on.invariant c.in-Ok.field-0 c.in_default-next.not-End turn in
    omega (arith, step.0, inside_bytes c.args.bytes.now _ _ _ step.1)

pub loop-next-preserved : goal.loop-next-preserved
loop-next-preserved c =
    let on = c.loop-next in
    let found : c.passing.result ≡ Ok c.in-Ok.field-0 = search rules in
    let turn = subst (Turn c.args.bytes.now on.at on.plan on.last) found c.passing.ensures in
    let step = stepped c.args.bytes.now on.plan on.last on.at on.invariant c.in-Ok.field-0 c.in_default-next.not-End turn in
    rw c.store_in.ensures step.1
