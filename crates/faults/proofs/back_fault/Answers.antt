-- `faults::back_fault` meets its contract: each way out is a rung of the ladder of the tests of a taking back. Assumes nothing.
use native.Mathlib.Omega.{arith}
use mathlib.Core.Path.{sym, ◌∙◌}
use Rattle.model.specs.Net.{has}
use Rattle.moves.proofs.KeyLaws.{key_active, key_waits}
use Rattle.moves.proofs.TableLaws.{told_there}
use Rattle.faults.proofs.LadderLaws.{back_27, back_34, back_0}
use Rattle.faults.proofs.back_fault.Goals as goal

pub open_place-requires : goal.open_place-requires
open_place-requires c = (_, _, c.requires.2.calls_told)

pub returns-in_default : goal.returns-in_default
returns-in_default c = λ rs cs seen. (back_27 rs cs _ (c.in_default.ensures rs cs seen.calls_told), λ e. absurd (omega arith))

pub returns-then-table-at-eq0 : goal.returns-then-table-at-eq0
returns-then-table-at-eq0 c = λ rs cs seen.
    let w = c.in-Some.ensures rs cs seen.calls_told in
    let runs = key_active rs w.who (sym (told_there (has _) w.who _ seen.of_keys w.found w.here) ∙ c.if-table-at-eq0.true) in
    (back_34 rs cs _ w.who w.found runs, λ e. absurd (omega arith))

pub returns : goal.returns
returns c = λ rs cs seen.
    let w = c.in-Some.ensures rs cs seen.calls_told in
    let waits = key_waits rs w.who (λ q. c.if-table-at-eq0.false (told_there (has _) w.who _ seen.of_keys w.found w.here ∙ q)) in
    (back_0 rs cs _ w.who w.found waits, λ e. w.here)
