-- `faults::start_fault` meets its contract: each way out is a rung of the ladder of a start's tests. Assumes nothing.
use native.Mathlib.Omega.{arith}
use mathlib.Core.Path.{sym, ◌∙◌}
use Rattle.std.proofs.lemmas.Bool.{not_from_true, not_from_false}
use Rattle.lists.proofs.CountLaws.{denied, granted}
use Rattle.faults.proofs.LadderLaws.{start-22, start-26, start-0}
use Rattle.faults.proofs.start_fault.Goals as goal

pub returns-then-not-has_node : goal.returns-then-not-has_node
returns-then-not-has_node c = λ rs cs seen.
    let is_free = c.in_ok-free.ensures rs cs seen.calls_told in
    start-22 rs cs _ is_free.0 is_free.1 _ (sym (seen.listing.tells _) ∙ denied _ _ c.has_node.ensures (not_from_false _ c.if-not-has_node.true))

pub returns-then-table-eq-OPEN : goal.returns-then-table-eq-OPEN
returns-then-table-eq-OPEN c = λ rs cs seen.
    let is_free = c.in_ok-free.ensures rs cs seen.calls_told in
    let listed = sym (seen.listing.tells _) ∙ granted _ _ c.has_node.ensures (not_from_true _ c.if-not-has_node.false) in
    start-26 rs cs _ is_free.0 is_free.1 _ listed (omega (arith, seen.calls_told.count, c.if-table-eq-OPEN.true))

pub returns : goal.returns
returns c = λ rs cs seen.
    let is_free = c.in_ok-free.ensures rs cs seen.calls_told in
    let listed = sym (seen.listing.tells _) ∙ granted _ _ c.has_node.ensures (not_from_true _ c.if-not-has_node.false) in
    start-0 rs cs _ is_free.0 is_free.1 _ listed (omega (arith, seen.calls_told.count, seen.calls_told.firm.few, c.if-table-eq-OPEN.false))
