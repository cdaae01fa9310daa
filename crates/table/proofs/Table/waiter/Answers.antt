-- `Table::waiter` meets its contract: the search's test says whether a key at a place lies between the two, and no zero does. Assumes nothing.
use Prim.Native.Nat.{ℕ}
use native.Mathlib.Omega.{arith}
use Rattle.std.proofs.Common.{rules}
use mathlib.Core.Path.{ap}
use mathlib.Core.Bool.{Bool, ◌&&◌}
use lib.Dec.{leb, ltb}
use borrow.Author.Tests.{le-ltb}
use Rattle.table.specs.Places.{between, passing}
use Rattle.table.proofs.Table.waiter.Goals as goal

pub returns : goal.returns
unfolding between passing
returns c = c.place.ensures (λ (n : ℕ). ltb c.args.low n && leb n c.args.top) (λ x h r p. search rules)
    (ap (λ (b : Bool). b && leb 0 c.args.top) (le-ltb c.args.low 0 (omega arith)))
