-- `Tree::leaves` meets its contract. The loop's invariant: the leaves of the levels below k are set.
-- Assumes nothing.
use native.Mathlib.Omega.{arith}
use Rattle.tree.proofs.StoredLaws.{count_most}
use Rattle.tree.proofs.Tree.leaves.Goals as goal

pub overflow_sub-self-in-loop-k : goal.overflow_sub-self-in-loop-k
overflow_sub-self-in-loop-k c = omega (arith, count_most c.args.threads c.args.counts.now c.requires c.loop-k.k)
