-- The commands counted are the turns of the loop, and no more are refused.
use Rattle.std.proofs.Common.{◌≤◌}
use Rattle.single.proofs.all.Given as goal

abbrev pub invariant-loop : goal.invariant-loop
invariant-loop l = (l.commands ≤ l.counter) × (l.refused ≤ l.commands)
