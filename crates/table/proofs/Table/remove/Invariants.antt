-- `Table::remove` meets its contract. The loop's invariant: in each of three arrays the places from the gap up to i hold what stood one place further, and the
-- nodes are as they were. Assumes nothing.
use mathlib.Core.Path.{◌≡◌}
use Rattle.table.specs.Places.{Closing}
use Rattle.table.proofs.Table.remove.Given as goal

abbrev pub invariant-loop-i : goal.invariant-loop-i
invariant-loop-i l =
    Closing l.at l.i l.initial.self.tickets l.self.tickets
    × Closing l.at l.i l.initial.self.parents l.self.parents
    × Closing l.at l.i l.initial.self.keys l.self.keys
    × (l.self.nodes ≡ l.initial.self.nodes)
