-- `plan::read` meets its contract: a scan that was refused is the reading, and one that reached the end record is finished by the checks there.
-- Assumes nothing.
use native.Mathlib.Omega.{arith}
use mathlib.Core.Path.{refl}
use Rattle.plan.proofs.AnswerLaws.{refused_answers, reached, stops_early, passes_end, fails_end}
use Rattle.plan.proofs.read.Goals as goal

pub returns-in_default : goal.returns-in_default
returns-in_default c = stops_early c.args.bytes.now c.scan-scanned.result _ c.in_default.is c.scan-scanned.ensures

pub overflow_sub-offset : goal.overflow_sub-offset
overflow_sub-offset c =
    let there = reached c.args.bytes.now c.scan-scanned.result c.in-Ok.used c.in-Ok.is c.scan-scanned.ensures in
    omega (arith, there.end_byte)

pub returns-in-Err : goal.returns-in-Err
returns-in-Err c =
    let there = reached c.args.bytes.now c.scan-scanned.result c.in-Ok.used c.in-Ok.is c.scan-scanned.ensures in
    refused_answers c.in-Err.why _ refl c.empty-none.ensures (fails_end c.args.bytes.now _ _ there c.in-Err.why c.in-Err.ensures)

pub returns : goal.returns
returns c =
    let there = reached c.args.bytes.now c.scan-scanned.result c.in-Ok.used c.in-Ok.is c.scan-scanned.ensures in
    passes_end c.args.bytes.now _ _ there c.scan-scanned.result c.in-Ok.is refl c.in_default-check_end.ensures
