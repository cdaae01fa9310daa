-- `printable::called` meets its contract. The loop's invariant is `Calling`, and what is to be looked at falls as a number. Assumes nothing.
use native.Mathlib.Omega.{arith}
use Rattle.words.proofs.LeastLaws.{without-less}
use Rattle.printable.proofs.CalledLaws.{calling_none, next_inside, calling_more, calling_all}
use Rattle.printable.proofs.called.Goals as goal

pub loop-todo-init : goal.loop-todo-init
loop-todo-init c = calling_none _ c.args.set (omega (arith, c.ranges.set))

pub loop-todo-smaller : goal.loop-todo-smaller
loop-todo-smaller c = omega (arith, c.without_lowest-todo.ensures, without-less c.loop-todo.todo (omega (arith, c.loop-todo-test.true)))

pub loop-todo-preserved : goal.loop-todo-preserved
loop-todo-preserved c = calling_more c.lowest.ensures c.without_lowest-todo.ensures (omega (arith, c.loop-todo-test.true)) c.loop-todo.invariant

pub returns : goal.returns
returns c = calling_all c.loop-todo-test.false c.loop-todo.invariant

pub offset_bounds-calls-lowest : goal.offset_bounds-calls-lowest
offset_bounds-calls-lowest c = omega (arith, next_inside c.lowest.ensures c.loop-todo-test.true c.loop-todo.invariant)

pub bounds-calls-lowest : goal.bounds-calls-lowest
bounds-calls-lowest c = next_inside c.lowest.ensures c.loop-todo-test.true c.loop-todo.invariant
