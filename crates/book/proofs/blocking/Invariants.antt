-- `book::blocking` meets its contract. The loop's invariant: the calls at or above k are counted, and no level above k up to the asked one is full. Assumes nothing.
use Prim.Native.Nat.{suc, ◌≤◌}
use mathlib.Core.Path.{◌≡◌}
use Rattle.lists.specs.Count.{last}
use Rattle.model.specs.Site.{A, full}
use Rattle.book.proofs.blocking.Given as goal

abbrev pub invariant-loop-k : goal.invariant-loop-k
invariant-loop-k l = (l.k ≤ l.asked) × (l.active ≡ A l.counts l.k) × (last (suc l.asked) (full l.threads l.counts) ≡ last (suc l.k) (full l.threads l.counts))

abbrev pub decreases-loop-k : goal.decreases-loop-k
decreases-loop-k l = l.k
