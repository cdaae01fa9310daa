-- `words::without_lowest` meets its contract: of the empty set nothing is left, and of another the "and" is the definition. Assumes nothing.
use mathlib.Core.Path.{refl, sym, ap}
use Rattle.words.specs.Words.{without_least}
use Rattle.words.proofs.without_lowest.Goals as goal

pub returns-then-word-eq0 : goal.returns-then-word-eq0
unfolding without_least
returns-then-word-eq0 c = sym (ap without_least c.if-word-eq0.true)

pub returns : goal.returns
unfolding without_least
returns c = refl
