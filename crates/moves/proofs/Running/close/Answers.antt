-- `Running::close` meets its contract: the gap closes, the thread comes back, and the laws of a closing say what the arrays then hold. Assumes nothing.
use Rattle.model.proofs.FirmLaws.{ending_leaves}
use Rattle.moves.proofs.CloseLaws.{gap, give_fits, closed-held}
use Rattle.moves.proofs.Running.close.Goals as goal

pub remove-requires : goal.remove-requires
remove-requires c = let ok = c.requires.4 in
    gap c.args.self.now.table ok.held (ending_leaves ok.ending) _ ok.place

pub give-requires : goal.give-requires
give-requires c = give_fits c.args.self.now.table c.requires.4

pub returns-clause-closed : goal.returns-clause-closed
returns-clause-closed c = λ rs cs ticket gone ok. closed-held c.args.self.now.table ok c.remove.ensures.closed c.give.ensures
