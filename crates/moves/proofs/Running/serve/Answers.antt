-- `Running::serve` meets its contract. What the search among the keys finds is whom the definitions wake, or nobody; the laws of a waking say what the stores
-- leave. Assumes nothing.
use native.Mathlib.Omega.{arith}
use mathlib.Core.Path.{refl, ◌∙◌}
use mathlib.Core.List.{List}
use Rattle.ids.specs.Limits.{most_open}
use Rattle.model.specs.Plan.{Record}
use Rattle.model.specs.Net.{Call}
use Rattle.moves.specs.Held.{CanServe, arrays_of}
use Rattle.moves.proofs.OpenLaws.{site_limited}
use Rattle.moves.proofs.TableLaws.{tells_table}
use Rattle.moves.proofs.ServeLaws.{Chosen, chosen-one, chosen_takes, served, unserved}
use Rattle.moves.proofs.Running.serve.Goals.{In_ok-next}
use Rattle.moves.proofs.Running.serve.Goals as goal

pub limit-requires : goal.limit-requires
limit-requires c = let ok = c.requires.2 in site_limited ok.held ok.site_inside ok.threads_are

pub waiter-requires : goal.waiter-requires
waiter-requires c = let ok = c.requires.2 in tells_table ok.held.of_keys ok.held.count ok.held.firm.few

pub returns-in_err-next-clause-served : goal.returns-in_err-next-clause-served
returns-in_err-next-clause-served c = λ rs cs ok.
    let nobody = unserved ok c.base-base.result c.limit.result most_open c.base-base.ensures c.limit.ensures c.in_err-next.ensures refl in
    (c.from_residual.ensures ∙ nobody.0, nobody.1)

-- the call that was found, whichever net the arrays hold
found : (c : In_ok-next) {rs : List Record} {cs : List Call}
    (ok : CanServe rs cs (arrays_of c.args.self.now) c.args.self.now.table.used c.args.site c.args.threads)
    → Chosen ok c.base-base.result c.limit.result c.in_ok-next.next c.base-base.ensures c.limit.ensures c.in_ok-next.ensures.0
found c ok = chosen-one ok _ _ _ c.base-base.ensures c.limit.ensures c.in_ok-next.ensures.0 c.in_ok-next.ensures.1

pub overflow_sub-level : goal.overflow_sub-level
overflow_sub-level c = omega (arith, c.base-base.ensures, (found (goal.at.overflow_sub-level c).In_ok-next c.requires.2).key_told)

pub overflow_sub-level-2 : goal.overflow_sub-level-2
overflow_sub-level-2 c = omega (arith, c.base-base.ensures, (found (goal.at.overflow_sub-level-2 c).In_ok-next c.requires.2).key_told)

pub overflow_cast-level-2 : goal.overflow_cast-level-2
overflow_cast-level-2 c = let who = found (goal.at.overflow_cast-level-2 c).In_ok-next c.requires.2 in
    omega (arith, c.base-base.ensures, who.key_told, who.small)

pub take-requires : goal.take-requires
take-requires c = chosen_takes c.requires.2 _ _ _ c.base-base.ensures c.limit.ensures c.in_ok-next.ensures.0
    (found (goal.at.take-requires c).In_ok-next c.requires.2)

pub returns-clause-served : goal.returns-clause-served
returns-clause-served c = λ rs cs ok.
    served ok _ _ _ c.base-base.ensures c.limit.ensures c.in_ok-next.ensures.0 (found (goal.at.returns-clause-served c).In_ok-next ok) _ c.take.ensures
