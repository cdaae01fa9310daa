-- `net::empty` meets its contract: the calls of an empty table and zeros are the value of no calls. Assumes nothing.
use Rattle.net.proofs.EmptyLaws.{joinable, empty_is}
use Rattle.net.proofs.empty.Goals as goal

pub join-requires : goal.join-requires
join-requires c = joinable c.args.plan c.empty.ensures

pub returns : goal.returns
returns c = empty_is c.args.plan c.empty.ensures c.join.ensures
