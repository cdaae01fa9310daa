-- `shown::node_lines` meets its contract. The loop's invariant: the lines of the nodes below n are put. Assumes nothing.
use mathlib.Core.Path.{◌≡◌}
use Rattle.text.specs.Put.{Puts}
use Rattle.shown.specs.Lines.{node_texts, is_listed, told_on}
use Rattle.shown.proofs.node_lines.Given as goal

abbrev pub invariant-loop-n : goal.invariant-loop-n
invariant-loop-n l =
    (l.page.text.ghost_name ≡ l.initial.page.text.ghost_name)
    × Puts l.initial.page (node_texts (is_listed l.plan.places) (told_on l.table.cells) l.n) l.page
