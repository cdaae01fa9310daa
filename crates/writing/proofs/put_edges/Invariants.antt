-- `writing::put_edges` meets its contract. The loop's invariant: the records of the first i edges are put. Assumes nothing.
use mathlib.Core.Path.{◌≡◌}
use Rattle.text.specs.Put.{Puts}
use Rattle.writing.specs.Writes.{edges_bytes}
use Rattle.writing.proofs.put_edges.Given as goal

abbrev pub invariant-loop-i : goal.invariant-loop-i
invariant-loop-i l = (l.page.text.ghost_name ≡ l.initial.page.text.ghost_name) × Puts l.initial.page (edges_bytes l.plan l.i) l.page
