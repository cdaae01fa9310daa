-- `words::has` meets its contract: a shift by n and the lowest digit; past the word's 64 digits there is no member. Assumes nothing.
use mathlib.Core.Path.{sym}
use borrow.Author.Rules.{rules}
use Rattle.words.specs.Words.{member}
use Rattle.words.proofs.WordLaws.{member-past}
use Rattle.words.proofs.has.Goals as goal

pub returns-then-n-ge-COUNT : goal.returns-then-n-ge-COUNT
returns-then-n-ge-COUNT c = sym (member-past 64 c.args.word c.args.n c.well_formed.0.1 c.if-n-ge-COUNT.true)

pub returns : goal.returns
unfolding member
returns c = search rules
