-- `rules::tickets_kept` meets its contract: whichever calls the array holds, each ticket before the loop's place is found first at its own. Assumes nothing.
use Rattle.rules.proofs.TicketLaws.{find_fits, none_fails, other-fails, own-found, all_own}
use Rattle.rules.proofs.tickets_kept.Goals as goal

pub returns-then-ticket-eq-NONE : goal.returns-then-ticket-eq-NONE
returns-then-ticket-eq-NONE c = λ cs seen. none_fails seen c.loop-i.i c.loop-i-test.true c.if-ticket-eq-NONE.true

pub find-requires : goal.find-requires
find-requires c = find_fits c.requires.1 _ c.if-ticket-eq-NONE.false

pub returns-then-ne : goal.returns-then-ne
returns-then-ne c = λ cs seen. other-fails seen c.loop-i.i c.loop-i-test.true c.if-ticket-eq-NONE.false _ c.find.ensures c.if-ne.ensures

pub loop-i-preserved : goal.loop-i-preserved
loop-i-preserved c = λ cs seen.
    own-found seen c.loop-i.i c.loop-i-test.true c.if-ticket-eq-NONE.false (c.loop-i.invariant cs seen) _ c.find.ensures c.if-ne.ensures

pub returns : goal.returns
returns c = λ cs seen. all_own seen c.loop-i.i c.loop-i-test.false (c.loop-i.invariant cs seen)
