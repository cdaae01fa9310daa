-- `book::least_spare` meets its contract. The loop's invariant: the calls at or above k are counted, and `least` is the smallest up to k. Assumes nothing.
use Prim.Native.Nat.{◌-◌, ◌≤◌}
use mathlib.Core.Path.{◌≡◌}
use Rattle.lists.specs.Count.{smallest}
use Rattle.model.specs.Site.{A, spare}
use Rattle.book.proofs.least_spare.Given as goal

abbrev pub invariant-loop-k : goal.invariant-loop-k
invariant-loop-k l = (l.k ≤ l.wanted) × (l.active ≡ A l.counts l.k) × (l.least ≡ smallest l.k (spare l.threads l.counts))

abbrev pub decreases-loop-k : goal.decreases-loop-k
decreases-loop-k l = l.wanted - l.k
