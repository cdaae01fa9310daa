-- `plan::scan` meets its contract. The loop's invariant: the reading is on its way behind some passing records, which the plan holds.
-- The measure is the bytes left. Assumes nothing.
use Prim.Native.Nat.{◌-◌}
use lib.ListN.{length}
use Rattle.plan.proofs.ReadLaws.{Way}
use Rattle.plan.proofs.scan.Given as goal

abbrev pub invariant-loop-next : goal.invariant-loop-next
invariant-loop-next l = Way l.bytes l.plan l.last l.at

abbrev pub decreases-loop-next : goal.decreases-loop-next
decreases-loop-next l = length l.bytes - l.at
