-- `printable::depended` meets its contract: a path, a call edge and a path again. Assumes nothing.
use Prim.Native.Nat.{ℕ}
use mathlib.Core.Path.{subst}
use Rattle.graph.specs.Reached.{ReachedFrom}
use Rattle.printable.proofs.DependsLaws.{depended_is}
use Rattle.printable.proofs.depended.Goals as goal

pub returns : goal.returns
returns c = let from-n =
    subst (λ (set : ℕ). ReachedFrom c.args.paths.now.rows set c.reached-before.result) c.with.ensures c.reached-before.ensures in
    depended_is c.requires from-n c.called.ensures c.reached.ensures
