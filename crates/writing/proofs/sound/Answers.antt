-- `writing::sound` meets its contract: the arrays are asked first, and behind them the end record decides. Assumes nothing.
use mathlib.Core.Path.{sym, ◌∙◌}
use Rattle.writing.proofs.SoundLaws.{array_fault, end_decides}
use Rattle.writing.proofs.sound.Goals as goal

pub returns-then-not-passes : goal.returns-then-not-passes
returns-then-not-passes c = array_fault c.args.plan (sym c.passes.ensures ∙ c.if-not-passes.true)

pub returns : goal.returns
returns c = c.is_ok.ensures.value ∙ end_decides c.args.plan (sym c.passes.ensures ∙ c.if-not-passes.false) c.check_end.result c.check_end.ensures
