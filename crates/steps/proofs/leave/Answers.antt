-- `steps::leave` meets its contract: where a test fails nothing is changed, and where none fails the call is closed and the oldest waiter served. Below the
-- lowest full level nobody is to be served, since that level stays full. Assumes nothing.
use native.Mathlib.Omega.{arith}
use mathlib.Core.Path.{◌∙◌}
use Rattle.std.proofs.Common.{rules}
use Rattle.moves.proofs.ServeLaws.{given_told}
use Rattle.steps.proofs.SeenLaws.{return_seen}
use Rattle.steps.proofs.StandLaws.{handed_on, stepped_at}
use Rattle.steps.proofs.LeaveLaws.{gone, at_small, node_listed, site_listed, can_close, limit-told, can_serve, returned, unserved}
use Rattle.steps.proofs.leave.Goals as goal

pub return_fault-requires : goal.return_fault-requires
return_fault-requires c = let ok = c.requires in (ok.0.plan, ok.0.calls, return_seen ok.2)

pub returns-in_err-at : goal.returns-in_err-at
returns-in_err-at c = λ net edges run. handed_on run _ _ (c.in_err-at.ensures _ _ (return_seen run)).0 _ (search rules)

pub bounds-running-at : goal.bounds-running-at
bounds-running-at c = let run = c.requires.2 in omega (arith, at_small run _ _ (c.in_ok-at.ensures _ _ (return_seen run)))

pub bounds-plan-node : goal.bounds-plan-node
bounds-plan-node c = let run = c.requires.2 in omega (arith, node_listed run _ _ (c.in_ok-at.ensures _ _ (return_seen run)))

pub bounds-plan-node-2 : goal.bounds-plan-node-2
bounds-plan-node-2 c = let run = c.requires.2 in omega (arith, node_listed run _ _ (c.in_ok-at.ensures _ _ (return_seen run)))

pub bounds-plan-site : goal.bounds-plan-site
bounds-plan-site c = let run = c.requires.2 in omega (arith, site_listed run _ _ (c.in_ok-at.ensures _ _ (return_seen run)))

pub limit-limit-requires : goal.limit-limit-requires
limit-limit-requires c = limit-told c.requires.2 _ _ (c.in_ok-at.ensures _ _ (return_seen c.requires.2))

pub close-requires : goal.close-requires
close-requires c = let ok = c.requires in
    let said = c.in_ok-at.ensures _ _ (return_seen ok.2) in
    (ok.0.plan, ok.0.calls, _, gone ok.2 _ _ said, can_close ok.2 _ _ said)

pub returns-then-level-limit : goal.returns-then-level-limit
returns-then-level-limit c = λ net edges run.
    let said = c.in_ok-at.ensures _ _ (return_seen run) in
    let closed = c.close.ensures.closed _ _ _ _ (can_close run _ _ said) in
    unserved run _ _ said c.close.ensures.counted closed _ c.limit-limit.ensures c.if-level-limit.true

pub serve-admitted-requires : goal.serve-admitted-requires
serve-admitted-requires c = let run = c.requires.2 in
    let said = c.in_ok-at.ensures _ _ (return_seen run) in
    let closed = c.close.ensures.closed _ _ _ _ (can_close run _ _ said) in
    (_, _, can_serve run _ _ said c.close.ensures.counted closed)

pub returns : goal.returns
returns c = λ net edges run.
    let said = c.in_ok-at.ensures _ _ (return_seen run) in
    let closed = c.close.ensures.closed _ _ _ _ (can_close run _ _ said) in
    let left = c.close.ensures.counted in
    let after = c.serve-admitted.ensures.served _ _ (can_serve run _ _ said left closed) in
    stepped_at c.serve-admitted.new.self.table.used c.serve-admitted.ensures.counted (returned run _ _ said left closed (c.unwrap_or.ensures ∙ given_told _ after.0, after.1))
