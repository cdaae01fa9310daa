-- `writing::put_nodes` meets its contract. The loop's invariant: the records of the nodes below n are put. Assumes nothing.
use mathlib.Core.Path.{◌≡◌}
use Rattle.text.specs.Put.{Puts}
use Rattle.writing.specs.Writes.{nodes_bytes}
use Rattle.writing.proofs.put_nodes.Given as goal

abbrev pub invariant-loop-n : goal.invariant-loop-n
invariant-loop-n l = (l.page.text.ghost_name ≡ l.initial.page.text.ghost_name) × Puts l.initial.page (nodes_bytes l.plan l.n) l.page
