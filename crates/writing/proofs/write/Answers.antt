-- `writing::write` meets its contract: the plan is asked, then the buffer's length, and then the file stands in front of the buffer. Assumes nothing.
use native.Mathlib.Omega.{arith}
use Rattle.std.proofs.Common.{rules}
use Prim.Native.Nat.{◌≤◌}
use mathlib.Core.Path.{◌≡◌, sym, ◌∙◌}
use mathlib.Core.Bool.{Bool, true, false}
use lib.Dec.{eqb}
use borrow.Author.Tests.{eqb-true, eqb-false}
use Rattle.ids.specs.Limits.{most_edges}
use Rattle.model.specs.PlanFault.{plan_fault}
use Rattle.model.specs.declared.Plan.{Plan}
use Rattle.model.proofs.PlanFaultLaws.{plan_fault_none}
use Rattle.writing.proofs.FrontLaws.{broken-answers, short_answers, file_answers}
use Rattle.writing.proofs.write.Goals as goal

-- what the first test says
module _ (plan : Plan) {sound : Bool} (told : sound ≡ eqb (plan_fault plan) 0) where
  a_fault : sound ≡ false → plan_fault plan ≡ 0 → ⊥
  a_fault is = eqb-false (plan_fault plan) 0 (sym told ∙ is)

  no_fault : sound ≡ true → plan_fault plan ≡ 0
  no_fault is = eqb-true (plan_fault plan) 0 (sym told ∙ is)

  few : sound ≡ true → plan.edges ≤ most_edges
  few is = ((plan_fault_none plan).0 (no_fault is)).0

pub returns-then-not-sound : goal.returns-then-not-sound
returns-then-not-sound c = broken-answers c.args.plan c.args.buffer.now (a_fault c.args.plan c.sound.ensures c.if-not-sound.true)

pub file_length-requires : goal.file_length-requires
file_length-requires c = few c.args.plan c.sound.ensures c.if-not-sound.false

pub returns-then-buffer-file_length : goal.returns-then-buffer-file_length
returns-then-buffer-file_length c =
    short_answers c.args.plan c.args.buffer.now (no_fault c.args.plan c.sound.ensures c.if-not-sound.false) (omega (arith, c.file_length.ensures))

pub put_file-requires : goal.put_file-requires
put_file-requires c = record { few = few c.args.plan c.sound.ensures c.if-not-sound.false; room = omega (arith, c.file_length.ensures) }

pub returns : goal.returns
returns c =
    file_answers c.args.plan c.args.buffer.now (no_fault c.args.plan c.sound.ensures c.if-not-sound.false) (omega (arith, c.file_length.ensures))
    (search (rules, c.put_file.ensures.put))
