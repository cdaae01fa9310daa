-- `steps::take_back` meets its contract: where a test fails nothing is changed, and where none fails the gap at the call's place is closed. Assumes nothing.
use Rattle.std.proofs.Common.{rules}
use Rattle.steps.proofs.BackLaws.{back_seen, back_gap, withdrawn}
use Rattle.steps.proofs.StandLaws.{handed_on, stepped_at}
use Rattle.steps.proofs.take_back.Goals as goal

pub back_fault-requires : goal.back_fault-requires
back_fault-requires c = let ok = c.requires in (_, _, back_seen c.args.table.now ok.6)

pub returns-in_err-at : goal.returns-in_err-at
returns-in_err-at c = λ net rooms most-of places levels edges run.
    handed_on run _ _ (c.in_err-at.ensures _ _ (back_seen c.args.table.now run)).0 _ (search rules)

pub remove-requires : goal.remove-requires
remove-requires c = let run = c.requires.6 in
    back_gap c.args.table.now run _ _ (c.in_ok-at.ensures _ _ (back_seen c.args.table.now run))

pub returns : goal.returns
returns c = λ net rooms most-of places levels edges run.
    stepped_at c.remove.new.self.used c.remove.ensures.counted
    (withdrawn c.args.table.now run _ _ (c.in_ok-at.ensures _ _ (back_seen c.args.table.now run)) c.remove.ensures.closed)
