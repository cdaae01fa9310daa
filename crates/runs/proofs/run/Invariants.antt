-- `runs::run` meets its contract. The loop's invariant: the run went some commands far, the arrays hold the net behind them and the text their lines. The
-- measure is the bytes left. Assumes nothing.
use Prim.Native.Nat.{◌-◌}
use mathlib.Core.Path.{◌≡◌}
use lib.ListN.{length}
use Rattle.model.specs.Net.{Core}
use Rattle.moves.specs.Held.{arrays_of}
use Rattle.steps.specs.Running.{Running}
use Rattle.runs.specs.Went.{RunStands}
use Rattle.runs.proofs.run.Given as goal

abbrev pub invariant-loop-page : goal.invariant-loop-page
invariant-loop-page l = (l.page.text.ghost_name ≡ l.initial.page.text.ghost_name) × ((first : Core)
    → Running first (arrays_of l.initial.running) l.initial.running.table.used l.plan.threads l.plan.places l.plan.levels l.edges.rows
    → RunStands first (arrays_of l.running) l.running.table.used l.plan.threads l.plan.places l.plan.levels l.edges.rows l.bytes l.from l.at l.commands l.fn.text l.page.text.now l.page.at)

abbrev pub decreases-loop-page : goal.decreases-loop-page
decreases-loop-page l = length l.bytes - l.at
