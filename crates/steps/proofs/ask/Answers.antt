-- `steps::ask` meets its contract: who is found by the ticket, and the key at that place. Assumes nothing.
use mathlib.Core.Path.{sym, ◌∙◌}
use Rattle.model.specs.Net.{has}
use Rattle.moves.proofs.KeyLaws.{key_active, key_waits}
use Rattle.moves.proofs.TableLaws.{told_there}
use Rattle.steps.proofs.AskLaws.{asked_nobody, asked_waiting, asked_running}
use Rattle.steps.proofs.ask.Goals as goal

pub open_place-requires : goal.open_place-requires
open_place-requires c = (_, _, c.requires.1.calls_told)

pub returns-in_default : goal.returns-in_default
returns-in_default c = λ net seen. asked_nobody net _ (c.in_default.ensures _ _ seen.calls_told)

pub returns-then-table-at-ne0 : goal.returns-then-table-at-ne0
returns-then-table-at-ne0 c = λ net seen.
    let w = c.in-Some.ensures _ _ seen.calls_told in
    let key_told = told_there (has _) w.who _ seen.of_keys w.found w.here in
    asked_waiting net _ w.who w.found (key_waits net.plan w.who (λ q. c.if-table-at-ne0.true (key_told ∙ q)))

pub returns : goal.returns
returns c = λ net seen.
    let w = c.in-Some.ensures _ _ seen.calls_told in
    let key_told = told_there (has _) w.who _ seen.of_keys w.found w.here in
    asked_running net _ w.who w.found (key_active net.plan w.who (sym key_told ∙ c.if-table-at-ne0.false))
