-- `words::with` meets its contract: an "or" with the node's bit, where there is such a bit. Assumes nothing.
use Rattle.words.proofs.WordLaws.{inserted_inside, inserted-past}
use Rattle.words.proofs.with.Goals as goal

pub returns-then-n-ge-COUNT : goal.returns-then-n-ge-COUNT
returns-then-n-ge-COUNT c = inserted-past c.args.word c.args.n c.if-n-ge-COUNT.true

pub returns : goal.returns
returns c = inserted_inside c.args.word c.args.n c.if-n-ge-COUNT.false
