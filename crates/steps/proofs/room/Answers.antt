-- `steps::room` meets its contract: 30 past the sites and at or above the threads, else the smallest of the rooms up to the level. Assumes nothing.
use native.Mathlib.Omega.{arith}
use Rattle.steps.proofs.AskLaws.{no_site, too_high, room-ranged, room_there}
use Rattle.steps.proofs.room.Goals as goal

pub returns-then-site-ge-COUNT : goal.returns-then-site-ge-COUNT
returns-then-site-ge-COUNT c = λ net seen. no_site seen _ _ (omega (arith, c.if-site-ge-COUNT.true))

pub returns-then-level-plan : goal.returns-then-level-plan
returns-then-level-plan c = λ net seen. too_high seen _ _ (omega (arith, c.if-site-ge-COUNT.false)) (omega (arith, c.if-level-plan.true))

pub smallest-requires : goal.smallest-requires
smallest-requires c = room-ranged c.requires.1 _ _ (omega (arith, c.if-site-ge-COUNT.false)) (omega (arith, c.if-level-plan.false))

pub returns : goal.returns
returns c = λ net seen. room_there seen _ _ (omega (arith, c.if-site-ge-COUNT.false)) (omega (arith, c.if-level-plan.false)) _ c.smallest.ensures
