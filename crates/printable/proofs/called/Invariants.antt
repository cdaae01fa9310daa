-- `printable::called` meets its contract. The loop's invariant is `Calling`, and what is to be looked at falls as a number. Assumes nothing.
use Rattle.printable.proofs.CalledLaws.{Calling}
use Rattle.printable.proofs.called.Given as goal

abbrev pub invariant-loop-todo : goal.invariant-loop-todo
invariant-loop-todo l = Calling l.calls.rows l.set l.all l.todo

abbrev pub decreases-loop-todo : goal.decreases-loop-todo
decreases-loop-todo l = l.todo
