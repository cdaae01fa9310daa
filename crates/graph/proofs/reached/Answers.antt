-- `graph::reached` meets its contract. The loop's invariant is `Reaching`; what is not found and what is to be looked at, as one sum, falls. Assumes nothing.
use native.Mathlib.Omega.{arith}
use Rattle.graph.proofs.ReachLaws.{reaching_none, next_inside, OneTurn, turn_more, turn_less, reaching_all}
use Rattle.graph.proofs.reached.Goals as goal

turn : (c : goal.After-without_lowest)
    → OneTurn c.args.paths.now.rows c.loop-todo.found c.loop-todo.todo c.lowest.result c.minus-fresh.result c.without_lowest.result
turn c =
    record {
      next_is = c.lowest.ensures;
      fresh_is = c.minus-fresh.ensures;
      rest_is = c.without_lowest.ensures;
      some = omega (arith, c.loop-todo-test.true);
      row_small = omega arith;
    }

pub loop-todo-init : goal.loop-todo-init
loop-todo-init c = reaching_none _ c.args.from (omega (arith, c.ranges.from))

pub offset_bounds-paths-lowest : goal.offset_bounds-paths-lowest
offset_bounds-paths-lowest c = omega (arith, next_inside c.lowest.ensures c.loop-todo-test.true c.loop-todo.invariant)

pub bounds-paths-lowest : goal.bounds-paths-lowest
bounds-paths-lowest c = next_inside c.lowest.ensures c.loop-todo-test.true c.loop-todo.invariant

pub loop-todo-smaller : goal.loop-todo-smaller
loop-todo-smaller c = turn_less (turn c) c.loop-todo.invariant

pub loop-todo-preserved : goal.loop-todo-preserved
loop-todo-preserved c = turn_more (turn c) c.loop-todo.invariant

pub returns : goal.returns
returns c = reaching_all _ _ _ _ c.loop-todo-test.false c.loop-todo.invariant
