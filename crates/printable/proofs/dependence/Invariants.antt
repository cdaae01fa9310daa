-- `printable::dependence` meets its contract. The loop's invariant: the rows of the nodes below n are written; they tell what the plan's rows say.
-- Assumes nothing.
use Rattle.printable.proofs.TellLaws.{Filling}
use Rattle.printable.proofs.dependence.Given as goal

abbrev pub invariant-loop-n : goal.invariant-loop-n
invariant-loop-n l = Filling l.calls.rows l.paths.rows l.table.cells l.n
