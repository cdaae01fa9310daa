-- `Rows::link` meets its contract: a number that is no node makes no pair, and a node has one more in its row. Assumes nothing.
use native.Mathlib.Omega.{arith}
use Rattle.links.proofs.RowLaws.{link_pair}
use Rattle.links.proofs.Rows.link.Goals as goal

pub returns : goal.returns
returns c = let a = c.args in
    link_pair a.self.now.rows a.pair.caller.0 a.pair.callee.0 c.with.result c.with.ensures (omega arith) (omega arith)
