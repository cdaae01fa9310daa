-- `audit::take_nodes` meets its contract. The loop's invariant: the records of the nodes below n are taken up behind those of the sites.
-- Assumes nothing.
use Prim.Native.Nat.{◌+◌, ◌<◌}
use mathlib.Core.Path.{◌≡◌, refl, sym, subst}
use native.Mathlib.Omega.{arith}
use lib.ListN.{length}
use Rattle.std.proofs.Common.{rules}
use Rattle.std.specs.Prelude.{Ok, Err}
use Rattle.ids.specs.Limits.{nodes}
use Rattle.audit.specs.Taken.{Taken, nodes_to}
use Rattle.audit.specs.declared.Audit.{Audit}
use Rattle.audit.proofs.TakenLaws.{nodes_start, nodes_late, node_refused, node_taken, node-none}
use Rattle.audit.proofs.take_nodes.Goals as goal
use Rattle.audit.proofs.take_nodes.Goals.{then-place+in_ok-take, else-place}

pub returns-in_err-audit : goal.returns-in_err-audit
returns-in_err-audit c =
    let handed : c.from_residual.result ≡ Err c.in_err-audit.field-0.0 = search rules in
    subst (Taken (nodes_to c.args.plan.now nodes)) (sym handed) (nodes_late c.args.plan.now _ c.in_err-audit.ensures)

pub loop-n-init : goal.loop-n-init
loop-n-init c = nodes_start c.args.plan.now _ c.in_ok-audit.ensures

pub returns-in_err-take : goal.returns-in_err-take
returns-in_err-take c =
    let plan = c.args.plan.now in
    let inside : c.loop-n.n < length plan.places = omega arith in
    let handed : c.from_residual-in_err-take.result ≡ Err c.in_err-take.field-0.0 = search rules in
    subst (Taken (nodes_to plan nodes)) (sym handed)
    (node_refused plan c.loop-n.n inside c.loop-n.audit c.loop-n.invariant c.if-place.true c.loop-n-test.true _ c.in_err-take.ensures.fault)

pub loop-n-preserved : goal.loop-n-preserved
loop-n-preserved c =
    let plan = c.args.plan.now in
    let inside : c.loop-n.n < length plan.places = omega arith in
    let On : Audit → Type 0 = λ audit. Taken (nodes_to plan (c.loop-n.n + 1)) (Ok audit) in
    elim c.if-place.branch [
      | then-place+in_ok-take w ↦
          let now = w.in_ok-take.ensures.taken refl in
          subst On (sym w.audit-is)
          (node_taken plan c.loop-n.n inside c.loop-n.audit c.loop-n.invariant w.if-place.true w.take.new.self w.in_ok-take.ensures.fault now.0 now.1)
      | else-place w ↦ subst On (sym w.audit-is) (node-none plan c.loop-n.n inside c.loop-n.audit c.loop-n.invariant w.if-place.false)
    ]
