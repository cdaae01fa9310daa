-- `audit::take_records` meets its contract. The loop's invariant: the first i edges are taken up behind the records of the sites and nodes.
-- Assumes nothing.
use Prim.Native.Nat.{ℕ}
use native.Mathlib.Omega.{arith}
use mathlib.Core.Path.{◌≡◌, refl, sym, subst}
use Rattle.std.proofs.Common.{rules}
use Rattle.std.specs.Prelude.{Ok, Err}
use Rattle.audit.specs.Taken.{Taken, edges_to}
use Rattle.audit.proofs.TakenLaws.{edges_start, edges_late, edges-all, edge_refused, edge_taken}
use Rattle.audit.proofs.take_records.Goals as goal

pub returns-in_err-audit : goal.returns-in_err-audit
returns-in_err-audit c =
    let plan = c.args.plan.now in
    let handed : c.from_residual.result ≡ Err c.in_err-audit.field-0.0 = search rules in
    edges-all plan _ c.requires (subst (Taken (edges_to plan plan.edges)) (sym handed) (edges_late plan _ c.in_err-audit.ensures))

pub loop-i-init : goal.loop-i-init
loop-i-init c = edges_start c.args.plan.now _ c.in_ok-audit.ensures

pub returns-in_err-take : goal.returns-in_err-take
returns-in_err-take c =
    let plan = c.args.plan.now in
    let handed : c.from_residual-in_err-take.result ≡ Err c.in_err-take.field-0.0 = search rules in
    edges-all plan _ c.requires
    (subst (Taken (edges_to plan plan.edges)) (sym handed)
    (edge_refused plan c.loop-i.i c.loop-i.audit c.loop-i.invariant c.loop-i-test.true _ c.in_err-take.ensures.fault))

pub loop-i-preserved : goal.loop-i-preserved
loop-i-preserved c =
    let now = c.in_ok-take.ensures.taken refl in
    edge_taken c.args.plan.now c.loop-i.i c.loop-i.audit c.loop-i.invariant c.take.new.self c.in_ok-take.ensures.fault now.0 now.1

pub returns : goal.returns
returns c =
    let plan = c.args.plan.now in
    let all : c.loop-i.i ≡ plan.edges = omega arith in
    edges-all plan (Ok c.loop-i.audit) c.requires (subst (λ (i : ℕ). Taken (edges_to plan i) (Ok c.loop-i.audit)) all c.loop-i.invariant)
