-- `audit::take_sites` meets its contract. The loop's invariant: the records of the sites below s are taken up.
-- Assumes nothing.
use mathlib.Core.Path.{◌≡◌, refl, sym, subst}
use Prim.Native.Nat.{◌+◌}
use Rattle.std.proofs.Common.{rules}
use Rattle.std.specs.Prelude.{Ok, Err}
use Rattle.ids.specs.Limits.{sites}
use Rattle.audit.specs.Taken.{Taken, sites_to}
use Rattle.audit.specs.declared.Audit.{Audit}
use Rattle.audit.proofs.TakenLaws.{sites_start, site_refused, site_taken, site_none}
use Rattle.audit.proofs.take_sites.Goals as goal
use Rattle.audit.proofs.take_sites.Goals.{then-threads-ne0+in_ok-take, else-threads-ne0}

pub loop-s-init : goal.loop-s-init
loop-s-init c = sites_start c.args.plan.now _ c.empty.ensures

pub returns-in_err-take : goal.returns-in_err-take
returns-in_err-take c =
    let handed : c.from_residual.result ≡ Err c.in_err-take.field-0.0 = search rules in
    subst (Taken (sites_to c.args.plan.now sites)) (sym handed)
    (site_refused c.args.plan.now c.loop-s.s c.loop-s.audit c.loop-s.invariant c.if-threads-ne0.true c.loop-s-test.true _ c.in_err-take.ensures.fault)

pub loop-s-preserved : goal.loop-s-preserved
loop-s-preserved c =
    let plan = c.args.plan.now in
    let On : Audit → Type 0 = λ audit. Taken (sites_to plan (c.loop-s.s + 1)) (Ok audit) in
    elim c.if-threads-ne0.branch [
      | then-threads-ne0+in_ok-take w ↦
          let now = w.in_ok-take.ensures.taken refl in
          subst On (sym w.audit-is)
          (site_taken plan c.loop-s.s c.loop-s.audit c.loop-s.invariant w.if-threads-ne0.true w.take.new.self w.in_ok-take.ensures.fault now.0 now.1)
      | else-threads-ne0 w ↦ subst On (sym w.audit-is) (site_none plan c.loop-s.s c.loop-s.audit c.loop-s.invariant w.if-threads-ne0.false)
    ]
