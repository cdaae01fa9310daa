-- `cycles::with_steps` meets its contract. The loop's invariant: the steps to the nodes below m are taken. Assumes nothing.
use Rattle.cycles.specs.Within.{steps_in}
use Rattle.cycles.proofs.StepLaws.{Stepping}
use Rattle.cycles.proofs.with_steps.Given as goal

abbrev pub invariant-loop-m : goal.invariant-loop-m
invariant-loop-m l = Stepping l.set l.row (steps_in l.sited.places l.sited.levels l.n) l.m
