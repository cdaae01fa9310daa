-- `audit::take_sites` meets its contract. The loop's invariant: the records of the sites below s are taken up.
-- Assumes nothing.
use Rattle.std.specs.Prelude.{Ok}
use Rattle.audit.specs.Taken.{Taken, sites_to}
use Rattle.audit.proofs.take_sites.Given as goal

abbrev pub invariant-loop-s : goal.invariant-loop-s
invariant-loop-s l = Taken (sites_to l.plan l.s) (Ok l.audit)
