-- `faults::call_fault` meets its contract: each way out is a rung of the ladder of a call's tests. Assumes nothing.
use native.Mathlib.Omega.{arith}
use mathlib.Core.Path.{sym}
use mathlib.Core.List.{List}
use Rattle.std.proofs.lemmas.Bool.{not_from_true, not_from_false}
use Rattle.lists.proofs.CountLaws.{denied, granted}
use Rattle.model.specs.Plan.{Record}
use Rattle.model.specs.Net.{Call}
use Rattle.faults.specs.Seen.{CallSeen}
use Rattle.faults.proofs.LadderLaws.{call-23, Parented, parented, waiting_parent, node-lacking, row_inside, no_edge, table-full, call_passes}
use Rattle.faults.proofs.call_fault.Goals.{In-Some}
use Rattle.faults.proofs.call_fault.Goals as goal

pub returns-in_default : goal.returns-in_default
returns-in_default c = λ rs cs seen.
    let is_free = c.in_ok-free.ensures rs cs seen.calls_told in
    call-23 rs cs _ is_free.0 is_free.1 _ _ (c.in_default.ensures rs cs seen.calls_told)

-- what is known once the parent is found
module _ (c : In-Some) {rs : List Record} {cs : List Call}
    (seen : CallSeen rs cs c.args.table.now.tickets c.args.table.now.keys c.args.table.now.nodes c.args.plan.now.places c.args.edges.now.rows c.args.table.now.used) where
  known : Parented rs cs c.args.table.now.keys c.args.table.now.nodes c.args.parent c.args.ticket c.in-Some.at
  known = parented seen (c.in_ok-free.ensures rs cs seen.calls_told).1 (c.in-Some.ensures rs cs seen.calls_told)

pub returns-then-table-at-ne0 : goal.returns-then-table-at-ne0
returns-then-table-at-ne0 c = λ rs cs seen.
    waiting_parent seen _ (c.in_ok-free.ensures rs cs seen.calls_told).0 (known (goal.at.returns-then-table-at-ne0 c).In-Some seen) c.if-table-at-ne0.true

pub returns-then-not-has_node : goal.returns-then-not-has_node
returns-then-not-has_node c = λ rs cs seen.
    node-lacking seen _ (c.in_ok-free.ensures rs cs seen.calls_told).0 (known (goal.at.returns-then-not-has_node c).In-Some seen) c.if-table-at-ne0.false
    (denied _ _ c.has_node.ensures (not_from_false _ c.if-not-has_node.true))

pub bounds-edges-table : goal.bounds-edges-table
bounds-edges-table c = let seen = c.requires.2 in
    let inside = row_inside seen c.args.node (c.in_ok-free.ensures _ _ seen.calls_told).0 (known (goal.at.bounds-edges-table c).In-Some seen)
    c.if-table-at-ne0.false (granted _ _ c.has_node.ensures (not_from_true _ c.if-not-has_node.false))
    in
    omega (arith, inside, seen.edging.whole)

pub returns-then-not-has : goal.returns-then-not-has
returns-then-not-has c = λ rs cs seen.
    no_edge seen _ (c.in_ok-free.ensures rs cs seen.calls_told).0 (known (goal.at.returns-then-not-has c).In-Some seen) c.if-table-at-ne0.false
    (granted _ _ c.has_node.ensures (not_from_true _ c.if-not-has_node.false))
    (sym (denied _ _ c.has.ensures (not_from_false _ c.if-not-has.true)))

pub returns-then-table-eq-OPEN : goal.returns-then-table-eq-OPEN
returns-then-table-eq-OPEN c = λ rs cs seen.
    table-full seen _ (c.in_ok-free.ensures rs cs seen.calls_told).0 (known (goal.at.returns-then-table-eq-OPEN c).In-Some seen) c.if-table-at-ne0.false
    (granted _ _ c.has_node.ensures (not_from_true _ c.if-not-has_node.false))
    (sym (granted _ _ c.has.ensures (not_from_true _ c.if-not-has.false))) c.if-table-eq-OPEN.true

pub returns : goal.returns
returns c = λ rs cs seen.
    call_passes seen _ (c.in_ok-free.ensures rs cs seen.calls_told).0 (known (goal.at.returns c).In-Some seen) c.if-table-at-ne0.false
    (granted _ _ c.has_node.ensures (not_from_true _ c.if-not-has_node.false))
    (sym (granted _ _ c.has.ensures (not_from_true _ c.if-not-has.false))) c.if-table-eq-OPEN.false
