-- `rooms::give` meets its contract. The loop's invariant: the rooms of the first k levels are one more. Assumes nothing.
use Prim.Native.Nat.{◌+◌}
use native.Mathlib.Omega.{arith}
use Rattle.lists.proofs.FillLaws.{filled_none, filled_each, filled_to}
use Rattle.rooms.specs.Rooms.{one_more}
use Rattle.rooms.proofs.give.Goals as goal

pub loop-k-init : goal.loop-k-init
loop-k-init c = filled_to (omega arith) (filled_none _ c.args.base _)

pub overflow_add-rooms-in-loop-k : goal.overflow_add-rooms-in-loop-k
overflow_add-rooms-in-loop-k c = let k = c.loop-k.k in
    omega (arith, c.requires.not_most k (omega arith), c.loop-k.invariant.outside (c.args.base + k) (λ p q. omega arith))

pub loop-k-preserved : goal.loop-k-preserved
loop-k-preserved c = filled_each one_more c.loop-k.k (omega (arith, c.requires.inside)) c.loop-k.invariant

pub returns : goal.returns
returns c = filled_to (omega arith) c.loop-k.invariant
