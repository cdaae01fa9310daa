-- `apart::numbers` meets its contract: up to the place where the loop stands the arrays hold the first calls. Assumes nothing.
use mathlib.Core.Path.{◌≡◌}
use Rattle.apart.specs.Apart.{Holding}
use Rattle.apart.proofs.numbers.Given as goal

abbrev pub invariant-loop-i : goal.invariant-loop-i
invariant-loop-i l =
    record {
      holding : Holding l.net.calls l.i l.table.tickets l.table.parents l.table.nodes;
      keyless : l.table.keys ≡ l.initial.table.keys;
    }
