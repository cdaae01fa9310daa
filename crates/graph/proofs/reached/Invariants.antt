-- `graph::reached` meets its contract. The loop's invariant is `Reaching`; what is not found and what is to be looked at, as one sum, falls. Assumes nothing.
use Prim.Native.Nat.{◌+◌, ◌-◌, ◌^◌}
use Rattle.ids.specs.Limits.{nodes}
use Rattle.graph.proofs.ReachLaws.{Reaching}
use Rattle.graph.proofs.reached.Given as goal

abbrev pub invariant-loop-todo : goal.invariant-loop-todo
invariant-loop-todo l = Reaching l.paths.rows l.from l.found l.todo

abbrev pub decreases-loop-todo : goal.decreases-loop-todo
decreases-loop-todo l = (2 ^ nodes - l.found) + l.todo
