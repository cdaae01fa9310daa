-- `book::blocking` meets its contract. The loop's invariant: the calls at or above k are counted, and no level above k up to the asked one is full. Assumes nothing.
use native.Mathlib.Omega.{arith}
use mathlib.Core.Path.{refl}
use Rattle.lists.proofs.CountLaws.{last_bottom}
use Rattle.model.specs.Site.{blocking}
use Rattle.book.proofs.ReadLaws.{counted_from, level_inside, counted_on, more_fits, found-full, passed_on}
use Rattle.book.proofs.blocking.Goals as goal

pub loop-k-init : goal.loop-k-init
loop-k-init c = (omega arith, counted_from c.requires _ c.calls_from-active.ensures, refl)

pub returns-then-active-threads : goal.returns-then-active-threads
returns-then-active-threads c = found-full c.requires _ _ c.loop-k.invariant.1 c.loop-k.invariant.2 c.if-active-threads.true

pub bounds-counts-k : goal.bounds-counts-k
bounds-counts-k c = level_inside c.requires _ (omega (arith, c.loop-k.invariant.0))

pub overflow_add-active : goal.overflow_add-active
overflow_add-active c = omega (arith, more_fits c.requires _ _ (omega arith) c.loop-k.invariant.1)

pub loop-k-preserved : goal.loop-k-preserved
loop-k-preserved c = let ok = c.requires in (
  omega (arith, c.loop-k.invariant.0),
  counted_on ok _ _ (omega arith) c.loop-k.invariant.1,
  passed_on ok _ _ c.loop-k.invariant.1 c.loop-k.invariant.2 (omega arith) c.if-active-threads.false,
)

pub returns : goal.returns
unfolding blocking
returns c = last_bottom _ _ c.loop-k.k c.loop-k.invariant.2 (omega arith)
