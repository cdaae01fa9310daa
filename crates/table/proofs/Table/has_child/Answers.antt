-- `Table::has_child` meets its contract: no zero is a ticket. Assumes nothing.
use Prim.Native.Nat.{ℕ}
use native.Mathlib.Omega.{arith}
use Rattle.std.proofs.Common.{rules}
use lib.Dec.{eqb}
use borrow.Author.Tests.{ne_eqb}
use Rattle.table.specs.Places.{holds, passing}
use Rattle.table.proofs.Table.has_child.Goals as goal

pub returns : goal.returns
unfolding holds passing
returns c = c.somewhere.ensures (λ (n : ℕ). eqb n c.args.ticket) (λ x h r p. search rules) (ne_eqb 0 _ (λ e. omega (arith, c.requires.some_number)))
