-- `tally::count` meets its contract: whichever calls the arrays hold, the counts up to the loop's place are those of the calls before it. Assumes nothing.
use mathlib.Core.Path.{sym, subst}
use Rattle.tally.specs.Tally.{CountTold}
use Rattle.tally.proofs.CountLaws.{none_told, behind, counted_on, counted_over, counted_all}
use Rattle.tally.proofs.count.Goals as goal

pub loop-i-init : goal.loop-i-init
loop-i-init c = λ rs cs ok. none_told rs

pub raise-requires : goal.raise-requires
raise-requires c = let seen = c.requires in
    (seen.0, _, _, behind seen.2 c.loop-i.i c.loop-i-test.true (c.loop-i.invariant seen.0 seen.1 seen.2))

pub returns-in_err-raise : goal.returns-in_err-raise
returns-in_err-raise c = λ rs cs ok.
    subst (CountTold rs cs) (sym c.from_residual.ensures)
    (counted_over ok c.loop-i.i c.loop-i-test.true
    (c.in_err-raise.ensures.1 rs _ _ (behind ok c.loop-i.i c.loop-i-test.true (c.loop-i.invariant rs cs ok))))

pub loop-i-preserved : goal.loop-i-preserved
loop-i-preserved c = λ rs cs ok.
    counted_on ok c.loop-i.i c.loop-i-test.true
    (c.in_ok-raise.ensures.1 rs _ _ (behind ok c.loop-i.i c.loop-i-test.true (c.loop-i.invariant rs cs ok)))

pub returns : goal.returns
returns c = λ rs cs ok. counted_all c.loop-i.i c.args.table.now.used ok.count c.loop-i-test.false (c.loop-i.invariant rs cs ok)
