-- `audit::edges_pass` meets its contract: an edge that does not fit ends the loop, and behind the last all fit. Assumes nothing.
use native.Mathlib.Omega.{arith}
use mathlib.Core.Path.{refl, sym, ◌∙◌}
use mathlib.Core.Bool.{false}
use Rattle.audit.specs.Fits.{edge_fits, edges_fit}
use Rattle.audit.proofs.FitLaws.{fits_next, all_fit, every_decides}
use Rattle.audit.proofs.edges_pass.Goals as goal

pub loop-i-init : goal.loop-i-init
loop-i-init c = refl

pub returns-then-not-edge_fits : goal.returns-then-not-edge_fits
unfolding edges_fit
returns-then-not-edge_fits c =
    every_decides _ _ false (λ t. cc) (λ e. (c.loop-i.i, c.loop-i-test.true, sym c.edge_fits.ensures ∙ c.if-not-edge_fits.true))

pub loop-i-preserved : goal.loop-i-preserved
loop-i-preserved c =
    let p = c.args.plan.now in
    fits_next (edge_fits p.places p.pairs) c.loop-i.i c.loop-i.invariant (sym c.edge_fits.ensures ∙ c.if-not-edge_fits.false)

pub returns : goal.returns
unfolding edges_fit
returns c =
    let p = c.args.plan.now in
    all_fit (edge_fits p.places p.pairs) p.edges c.loop-i.i (omega arith) c.loop-i.invariant
