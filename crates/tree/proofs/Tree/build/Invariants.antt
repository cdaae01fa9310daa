-- `Tree::build` meets its contract. The loop's invariant: the tree stands up to some height, whose places are those from `first` on.
-- Assumes nothing.
use Rattle.tree.proofs.BuildLaws.{Growing}
use Rattle.tree.proofs.Tree.build.Given as goal

abbrev pub invariant-loop-first : goal.invariant-loop-first
invariant-loop-first l = Growing l.threads l.counts l.self.sizes l.self.slacks l.first l.end

abbrev pub decreases-loop-first : goal.decreases-loop-first
decreases-loop-first l = l.first
