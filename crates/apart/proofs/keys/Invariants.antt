-- `apart::keys` meets its contract: up to the place where the loop stands the keys are those of the first calls, and nothing else is changed. Assumes nothing.
use Rattle.apart.specs.Apart.{Known, Keyed, Beside}
use Rattle.apart.proofs.keys.Given as goal

abbrev pub invariant-loop-i : goal.invariant-loop-i
invariant-loop-i l =
    record {
      keyed : Known l.net → Keyed l.net l.i l.table.keys;
      beside : Beside l.initial.table l.table;
    }
