-- `faults::return_fault` meets its contract: each way out is a rung of the ladder of a return's tests. Assumes nothing.
use native.Mathlib.Omega.{arith}
use mathlib.Core.Path.{sym, ◌∙◌}
use Rattle.model.specs.Net.{has}
use Rattle.moves.proofs.KeyLaws.{key_active, key_waits}
use Rattle.moves.proofs.TableLaws.{told_there}
use Rattle.faults.proofs.LadderLaws.{stands_apart, child_fits, child_told, return_27, return_28, return_29, return_0}
use Rattle.faults.proofs.return_fault.Goals as goal

pub open_place-requires : goal.open_place-requires
open_place-requires c = (_, _, c.requires.2.calls_told)

pub returns-in_default : goal.returns-in_default
returns-in_default c = λ rs cs seen. (return_27 rs cs _ (c.in_default.ensures rs cs seen.calls_told), λ e. absurd (omega arith))

pub returns-then-table-at-ne0 : goal.returns-then-table-at-ne0
returns-then-table-at-ne0 c = λ rs cs seen.
    let w = c.in-Some.ensures rs cs seen.calls_told in
    let waits = key_waits rs w.who (λ q. c.if-table-at-ne0.true (told_there (has _) w.who _ seen.of_keys w.found w.here ∙ q)) in
    (return_28 rs cs _ w.who w.found waits, λ e. absurd (omega arith))

pub has_child-requires : goal.has_child-requires
has_child-requires c = let told = c.requires.2.calls_told in child_fits c.requires.2 _ (stands_apart told (c.in-Some.ensures _ _ told))

pub returns-then-has_child : goal.returns-then-has_child
returns-then-has_child c = λ rs cs seen.
    let w = c.in-Some.ensures rs cs seen.calls_told in
    let runs = key_active rs w.who (sym (told_there (has _) w.who _ seen.of_keys w.found w.here) ∙ c.if-table-at-ne0.false) in
    let child = sym (child_told seen _ (stands_apart seen.calls_told w) _ c.has_child.ensures) ∙ c.if-has_child.true in
    (return_29 rs cs _ w.who w.found runs child, λ e. absurd (omega arith))

pub returns : goal.returns
returns c = λ rs cs seen.
    let w = c.in-Some.ensures rs cs seen.calls_told in
    let runs = key_active rs w.who (sym (told_there (has _) w.who _ seen.of_keys w.found w.here) ∙ c.if-table-at-ne0.false) in
    let childless = sym (child_told seen _ (stands_apart seen.calls_told w) _ c.has_child.ensures) ∙ c.if-has_child.false in
    (return_0 rs cs _ w.who w.found runs childless, λ e. w.here)
