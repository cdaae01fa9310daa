-- `transcript::run` meets its contract: 19 where a rule is broken; else the run holds the net, goes over the bytes, and what it holds behind them is packed.
-- Assumes nothing.
use Rattle.entry.proofs.ReadyLaws.{edging}
use Rattle.transcript.proofs.RanLaws.{refused_run, ran_on, run_packing}
use borrow.Author.Rules.{rules}
use Rattle.transcript.proofs.run.Goals as goal

pub prepare-requires-clause-edged : goal.prepare-requires-clause-edged
prepare-requires-clause-edged c = edging c.args.net (search rules) c.call_rows-edges.ensures

pub returns-in_default : goal.returns-in_default
returns-in_default c = refused_run c.args.net _ c.in_default.ensures

pub run-ran-requires : goal.run-ran-requires
run-ran-requires c = (_, c.in-Ok.ensures.runs)

pub packed-requires : goal.packed-requires
packed-requires c = let on = (c.run-ran.ensures _ c.in-Ok.ensures.runs).0 in
    (_, run_packing c.args.net on.went on.runs_on)

pub returns : goal.returns
returns c = let held = c.in-Ok.ensures in
    let went = c.run-ran.ensures _ held.runs in
    ran_on c.args.net held.fault went.0 went.1 (c.packed.ensures _ (run_packing c.args.net went.0.went went.0.runs_on)) c.from.ensures
