-- `steps::enter` meets its contract: where a test fails nothing is changed, and where none fails the newcomer is opened. Assumes nothing.
use native.Mathlib.Omega.{arith}
use mathlib.Core.Path.{refl}
use Rattle.std.proofs.Common.{rules}
use Rattle.steps.proofs.SeenLaws.{call_seen}
use Rattle.steps.proofs.StandLaws.{handed_on, stepped_at}
use Rattle.steps.proofs.EnterLaws.{node_there, site_there, can_open, entry_ranged, entered}
use Rattle.steps.proofs.enter.Goals as goal

pub entry_fault-requires : goal.entry_fault-requires
entry_fault-requires c = let ok = c.requires in (ok.0.plan, ok.0.calls, call_seen ok.1)

pub returns-in_err-entry_fault : goal.returns-in_err-entry_fault
returns-in_err-entry_fault c = λ net run. handed_on run _ _ (c.in_err-entry_fault.ensures _ _ (call_seen run)) _ (search rules)

pub bounds-plan-node : goal.bounds-plan-node
bounds-plan-node c = let run = c.requires.1 in omega (arith, node_there run c.args.parent _ _ _ refl (c.in_ok-entry_fault.ensures _ _ (call_seen run)))

pub bounds-plan-node-2 : goal.bounds-plan-node-2
bounds-plan-node-2 c = let run = c.requires.1 in omega (arith, node_there run c.args.parent _ _ _ refl (c.in_ok-entry_fault.ensures _ _ (call_seen run)))

pub bounds-plan-site : goal.bounds-plan-site
bounds-plan-site c = let run = c.requires.1 in omega (arith, site_there run c.args.parent _ _ _ refl (c.in_ok-entry_fault.ensures _ _ (call_seen run)))

pub open-active-requires : goal.open-active-requires
open-active-requires c = let ok = c.requires in
    (ok.0.plan, ok.0.calls, can_open ok.1 _ _ _ _ c.unwrap_or-caller.ensures (c.in_ok-entry_fault.ensures _ _ (call_seen ok.1)))

pub entered-requires : goal.entered-requires
entered-requires c = let run = c.requires.1 in
    let said = c.in_ok-entry_fault.ensures _ _ (call_seen run) in
    entry_ranged run _ _ _ _ c.unwrap_or-caller.ensures said _ _
    (c.open-active.ensures.opened _ _ (can_open run _ _ _ _ c.unwrap_or-caller.ensures said)).1

pub returns : goal.returns
returns c = λ net run.
    let said = c.in_ok-entry_fault.ensures _ _ (call_seen run) in
    stepped_at c.open-active.new.self.table.used c.open-active.ensures.counted
    (entered run _ _ _ _ c.unwrap_or-caller.ensures said c.entered.ensures
    (c.open-active.ensures.opened _ _ (can_open run _ _ _ _ c.unwrap_or-caller.ensures said)))
