-- `cycles::path_rows` meets its contract. The loop's invariant: the rows of the nodes below n have taken their steps; the steps over the two arrays are those of the
-- plan's records. Assumes nothing.
use Rattle.cycles.proofs.StepLaws.{SteppingRows}
use Rattle.cycles.proofs.path_rows.Given as goal

abbrev pub invariant-loop-n : goal.invariant-loop-n
invariant-loop-n l = SteppingRows l.initial.row-items l.row-items l.sited.places l.sited.levels l.n
