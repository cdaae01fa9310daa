-- `rules::settled` meets its contract: whichever net the arrays hold, nobody could be woken at the sites before the loop's. Assumes nothing.
use Rattle.rules.proofs.SettledLaws.{keys_table, site_limited, nobody-found, somebody-found, threadless, asleep_more, all_asleep}
use Rattle.rules.proofs.settled.Goals as goal

-- a site without threads
pub loop-site-preserved-then-most-eq0 : goal.loop-site-preserved-then-most-eq0
loop-site-preserved-then-most-eq0 c = let s = c.loop-site.site in
    let inside = c.loop-site-test.true in
    λ rs cs ok. asleep_more ok s inside (c.loop-site.invariant rs cs ok) (threadless ok s inside c.if-most-eq0.true)

pub limit-limit-requires : goal.limit-limit-requires
limit-limit-requires c = site_limited c.requires.2 c.loop-site.site c.loop-site-test.true

pub waiter-requires : goal.waiter-requires
waiter-requires c = keys_table c.requires.2

pub returns-then-is_some : goal.returns-then-is_some
returns-then-is_some c = λ rs cs ok.
    somebody-found ok c.loop-site.site c.loop-site-test.true _ c.limit-limit.ensures _ c.base-base.ensures _ c.waiter.ensures c.if-is_some.ensures

pub loop-site-preserved : goal.loop-site-preserved
loop-site-preserved c = let s = c.loop-site.site in
    let inside = c.loop-site-test.true in
    λ rs cs ok.
    asleep_more ok s inside (c.loop-site.invariant rs cs ok)
    (nobody-found ok s inside _ c.limit-limit.ensures _ c.base-base.ensures _ c.waiter.ensures c.if-is_some.ensures)

pub returns : goal.returns
returns c = λ rs cs ok. all_asleep ok c.loop-site.site c.loop-site-test.false (c.loop-site.invariant rs cs ok)
