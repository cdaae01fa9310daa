-- `words::minus` meets its contract: an "and" with the other word's complement is the definition. Assumes nothing.
use mathlib.Core.Path.{refl}
use Rattle.words.specs.Words.{difference}
use Rattle.words.proofs.minus.Goals as goal

pub returns : goal.returns
unfolding difference
returns c = refl
