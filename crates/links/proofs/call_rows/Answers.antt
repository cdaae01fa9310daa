-- `links::call_rows` meets its contract. The loop's invariant: the rows have the call edges of the first i edge records. Assumes nothing.
use native.Mathlib.Omega.{arith}
use mathlib.Core.Path.{refl}
use Rattle.links.proofs.RowLaws.{no_links, links_more, links_all}
use Rattle.links.proofs.call_rows.Goals as goal

pub loop-i-init : goal.loop-i-init
loop-i-init c = let p = c.args.plan in no_links _ p.pairs refl

pub loop-i-preserved : goal.loop-i-preserved
loop-i-preserved c = let p = c.args.plan in
    links_more c.loop-i.calls.rows c.link.new.self.rows p.pairs c.loop-i.i c.loop-i.invariant c.link.ensures

pub returns : goal.returns
returns c = links_all c.args.plan c.loop-i.calls.rows c.loop-i.i (omega (arith, c.min-i-end.ensures, c.loop-i-test.false)) c.loop-i.invariant
