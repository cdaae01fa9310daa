-- `Running::open` meets its contract. Whichever net the arrays hold, the level is below the limit exactly where the call may be admitted; then the laws of an
-- opening say what the stores leave. Assumes nothing.
use native.Mathlib.Omega.{arith}
use mathlib.Core.Path.{sym}
use Rattle.moves.proofs.OpenLaws.{limit_fits, lets_in, holds_back, take_fits, opened_active, opened_waiting}
use Rattle.moves.proofs.Running.open.Goals as goal

pub limit-limit-requires : goal.limit-limit-requires
limit-limit-requires c = let ok = c.requires.2 in limit_fits ok.held ok.placed

pub take-requires : goal.take-requires
take-requires c = let ok = c.requires.2 in
    take_fits ok.held ok.placed (lets_in ok.held ok.placed _ c.limit-limit.ensures c.if-level-limit.true)

pub returns-then-level-limit-clause-opened : goal.returns-then-level-limit-clause-opened
returns-then-level-limit-clause-opened c = λ rs cs ok.
    let e = lets_in ok.held ok.placed _ c.limit-limit.ensures c.if-level-limit.true in
    (sym e, opened_active ok e _ c.take.ensures)

pub returns-clause-opened : goal.returns-clause-opened
returns-clause-opened c = λ rs cs ok.
    let e = holds_back ok.held ok.placed _ c.limit-limit.ensures (omega (arith, c.if-level-limit.false)) in
    (sym e, opened_waiting ok e _ c.base.ensures)
