-- `net::command` meets its contract: 19 where a rule is broken; else the run holds the net, and what it holds behind the command is handed back. Assumes
-- nothing.
use Rattle.turns.proofs.AnswerLaws.{command_stepped}
use Rattle.entry.proofs.ReadyLaws.{edging, rule_breaks}
use Rattle.net.proofs.AnsweredLaws.{broken_answered, step-answered, handing}
use borrow.Author.Rules.{rules}
use Rattle.net.proofs.command.Goals as goal

pub prepare-requires-clause-edged : goal.prepare-requires-clause-edged
prepare-requires-clause-edged c = edging c.args.net (search rules) c.call_rows-edges.ensures

pub returns-in-Err : goal.returns-in-Err
returns-in-Err c = λ d e. rw c.from.ensures (broken_answered c.args.net (rule_breaks c.args.net _ c.in-Err.ensures) d)

pub answer-done-requires : goal.answer-done-requires
answer-done-requires c = (_, c.in_default.ensures.runs)

pub handed-requires : goal.handed-requires
handed-requires c = let asks = c.requires in
    (_, handing c.args.net c.in_default.ensures.fault asks.0 (command_stepped (c.answer-done.ensures _ c.in_default.ensures.runs) asks.0 asks.1))

pub returns : goal.returns
returns c = let net = c.args.net in
    let held = c.in_default.ensures in
    λ d e.
    step-answered net held.fault d _ (c.handed.ensures _ (handing net held.fault d (command_stepped (c.answer-done.ensures _ held.runs) d e)))
