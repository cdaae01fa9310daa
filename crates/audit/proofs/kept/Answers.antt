-- `audit::kept` meets its contract: the count of edges, the records taken up, and the checks of the end record are asked in the order of the
-- plan's first fault. Assumes nothing.
use mathlib.Core.Path.{◌≡◌, sym, subst}
use Rattle.std.proofs.Common.{rules}
use Rattle.std.specs.Prelude.{Err}
use Rattle.audit.specs.Audits.{Kept}
use Rattle.audit.proofs.CheckLaws.{too_many, record_found, end-found, end-passed}
use Rattle.audit.proofs.kept.Goals as goal

pub returns-then-plan-gt-EDGES : goal.returns-then-plan-gt-EDGES
returns-then-plan-gt-EDGES c = too_many c.args.plan.now c.if-plan-gt-EDGES.true

pub returns-in_err-held : goal.returns-in_err-held
returns-in_err-held c =
    let handed : c.from_residual.result ≡ Err c.in_err-held.field-0.0 = search rules in
    subst (Kept c.args.plan.now) (sym handed) (record_found c.args.plan.now c.if-plan-gt-EDGES.false _ c.in_err-held.ensures)

pub returns-in_err-check_end : goal.returns-in_err-check_end
returns-in_err-check_end c =
    let handed : c.from_residual-in_err-check_end.result ≡ Err c.in_err-check_end.field-0.0 = search rules in
    let so = c.in_ok-held.ensures in
    subst (Kept c.args.plan.now) (sym handed) (end-found c.args.plan.now c.if-plan-gt-EDGES.false so.0 _ so.1 c.in_err-check_end.ensures)

pub returns : goal.returns
returns c = let so = c.in_ok-held.ensures in end-passed c.args.plan.now c.if-plan-gt-EDGES.false so.0 _ so.1 c.in_ok-check_end.ensures
