-- `Tree::walk` meets its contract. The measure is the height. At a leaf the place is the level; above, both halves are places one height lower,
-- and each step is the one that `walk_in` takes. Assumes nothing.
use Rattle.tree.proofs.Tree.+walk.Given as goal

abbrev pub decreases-walk : goal.decreases-walk
decreases-walk l = l.height
