-- `words::lowest` meets its contract: the trailing zeros of the word are its least node. Assumes nothing.
use Rattle.words.proofs.LeastLaws.{trailing_least}
use Rattle.words.proofs.lowest.Goals as goal

pub returns : goal.returns
returns c = trailing_least c.args.word
