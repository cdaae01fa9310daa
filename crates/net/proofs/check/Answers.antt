-- `net::check` meets its contract: the edges are the plan's, and the answer is that of the tests. Assumes nothing.
use Rattle.entry.proofs.ReadyLaws.{edging, rule_told_is}
use borrow.Author.Rules.{rules}
use Rattle.net.proofs.check.Goals as goal

pub prepare-requires-clause-edged : goal.prepare-requires-clause-edged
prepare-requires-clause-edged c = edging c.args.net (search rules) c.call_rows-edges.ensures

pub returns : goal.returns
returns c = rule_told_is c.args.net _ _ _ c.prepare.ensures
