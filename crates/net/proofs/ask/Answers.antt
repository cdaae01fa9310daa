-- `net::ask` meets its contract: 19 where a rule is broken; else what stands at the place that the search answers. Assumes nothing.
use native.Mathlib.Omega.{arith}
use mathlib.Core.Path.{◌∙◌}
use Rattle.entry.proofs.ReadyLaws.{rule_breaks}
use Rattle.net.proofs.AnsweredLaws.{refused_is, broken-asked, asked_nobody, inside_there, asked-active, asked_waiting}
use borrow.Author.Rules.{rules}
use Rattle.net.proofs.ask.Goals as goal

pub returns-in_err-check : goal.returns-in_err-check
returns-in_err-check c =
    refused_is _ _ c.from_residual.ensures.1
    ∙ broken-asked c.args.net (rule_breaks c.args.net _ c.in_err-check.ensures) _

pub returns-in_default : goal.returns-in_default
returns-in_default c = asked_nobody c.args.net c.in_ok-check.ensures _ (search rules) _ c.place.ensures c.in_default.is

pub bounds-net-at : goal.bounds-net-at
bounds-net-at c = inside_there c.args.net c.in_ok-check.ensures _ (search rules) _ c.place.ensures _ c.in-Some.is

pub offset_bounds-net-at : goal.offset_bounds-net-at
offset_bounds-net-at c = omega (arith, inside_there c.args.net c.in_ok-check.ensures _ (search rules) _ c.place.ensures _ c.in-Some.is)

pub returns-then-net-at : goal.returns-then-net-at
returns-then-net-at c = asked-active c.args.net c.in_ok-check.ensures _ (search rules) _ c.place.ensures _ c.in-Some.is c.if-net-at.true

pub returns : goal.returns
returns c = asked_waiting c.args.net c.in_ok-check.ensures _ (search rules) _ c.place.ensures _ c.in-Some.is c.if-net-at.false
