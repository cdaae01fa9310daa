-- `audit::edges_pass` meets its contract. The loop's invariant: the edges below the loop's place fit. Assumes nothing.
use mathlib.Core.Path.{◌≡◌}
use mathlib.Core.Bool.{true}
use Rattle.lists.specs.Count.{every}
use Rattle.audit.specs.Fits.{edge_fits}
use Rattle.audit.proofs.edges_pass.Given as goal

abbrev pub invariant-loop-i : goal.invariant-loop-i
invariant-loop-i l = every l.i (edge_fits l.plan.places l.plan.pairs) ≡ true
