-- `book::least_spare` meets its contract. The loop's invariant: the calls at or above k are counted, and `least` is the smallest up to k. Assumes nothing.
use Prim.Native.Nat.{◌<◌}
use native.Mathlib.Omega.{arith}
use Rattle.book.proofs.ReadLaws.{counted_from, level_inside, all_fit, first-spare, one_fits, counted_up, rest_fits, smallest_up, spare_small}
use Rattle.book.proofs.least_spare.Goals as goal

pub overflow_sub-least : goal.overflow_sub-least
overflow_sub-least c = let ok = c.requires in all_fit ok _ (counted_from ok 0 c.calls_from-active.ensures)

pub loop-k-init : goal.loop-k-init
loop-k-init c = let ok = c.requires in
    let all = counted_from ok 0 c.calls_from-active.ensures in
    (omega arith, all, first-spare ok _ all)

pub bounds-counts-k : goal.bounds-counts-k
bounds-counts-k c = level_inside c.requires _ (omega (arith, c.loop-k.invariant.0))

pub overflow_sub-active : goal.overflow_sub-active
overflow_sub-active c = one_fits c.requires _ _ (omega arith) c.loop-k.invariant.1

pub overflow_sub-threads-in-loop-k : goal.overflow_sub-threads-in-loop-k
overflow_sub-threads-in-loop-k c = rest_fits c.requires _ _ (omega arith) c.loop-k.invariant.1

pub loop-k-preserved : goal.loop-k-preserved
loop-k-preserved c = let ok = c.requires in
    let low : c.loop-k.k < c.args.wanted = omega arith in (
      omega arith,
      counted_up ok _ _ low c.loop-k.invariant.1,
      smallest_up ok _ _ low c.loop-k.invariant.1 _ _ c.loop-k.invariant.2 c.min-least.ensures,
    )

pub overflow_cast-result : goal.overflow_cast-result
overflow_cast-result c = omega (arith, c.loop-k.invariant.2, spare_small c.requires c.loop-k.k)
