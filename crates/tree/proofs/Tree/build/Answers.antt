-- `Tree::build` meets its contract. The loop's invariant: the tree stands up to some height, whose places are those from `first` on.
-- Assumes nothing.
use Rattle.lists.proofs.FillLaws.{filled_of}
use Rattle.tree.proofs.BuildLaws.{growing_leaves, growing_more, grown_whole, can_join}
use Rattle.tree.proofs.Tree.build.Goals as goal

pub loop-first-init : goal.loop-first-init
loop-first-init c = let set = c.leaves.ensures in
    growing_leaves c.args.threads c.args.counts.now c.requires.0 _ _
    (filled_of c.requires.1.no_size set.filled)
    (filled_of c.requires.1.no_limits set.filled_2)

pub join-requires : goal.join-requires
join-requires c = let g = c.loop-first.invariant in
    can_join c.args.threads c.args.counts.now c.requires.0 _ _ g.row c.loop-first-test.true _ _ g.sized g.slacked

pub loop-first-preserved : goal.loop-first-preserved
loop-first-preserved c = let g = c.loop-first.invariant in
    let made = c.join.ensures in
    growing_more c.args.threads c.args.counts.now c.requires.0 _ _ g.row c.loop-first-test.true _ _ g.sized g.slacked _ _
    made.filled
    made.filled_2

pub returns : goal.returns
returns c = grown_whole c.loop-first-test.false c.loop-first.invariant
