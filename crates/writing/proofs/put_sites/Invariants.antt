-- `writing::put_sites` meets its contract. The loop's invariant: the records of the sites below s are put. Assumes nothing.
use mathlib.Core.Path.{◌≡◌}
use Rattle.text.specs.Put.{Puts}
use Rattle.writing.specs.Writes.{sites_bytes}
use Rattle.writing.proofs.put_sites.Given as goal

abbrev pub invariant-loop-s : goal.invariant-loop-s
invariant-loop-s l = (l.page.text.ghost_name ≡ l.initial.page.text.ghost_name) × Puts l.initial.page (sites_bytes l.plan l.s) l.page
