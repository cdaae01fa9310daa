-- Reading and writing undo each other, said of what the two functions answer: a file that was written reads as its plan and its length, and a plan that
-- was read is written with the bytes that were read. From the model's theorems and the two promises. Assumes nothing.
use Prim.Native.Nat.{ℕ, ◌≤◌}
use mathlib.Core.Path.{◌≡◌, refl, sym, ap, subst, ◌∙◌}
use Rattle.std.specs.Prelude.{Result, Ok}
use mathlib.Core.List.{List, [], ◌∷◌, ◌++◌}
use lib.ListN.{length, take, drop}
use Rattle.model.specs.Plan.{six, end_fault}
use Rattle.model.specs.Reading.{Reading, accepted, refused_at, read}
use Rattle.model.specs.PlanValue.{value, records_of, told_read, reading_told, reading_plan}
use Rattle.model.specs.declared.Plan.{Plan}
use Rattle.model.specs.declared.PlanRead.{PlanRead}
use Rattle.model.proofs.ReadingLaws.{read_refuses}
use Rattle.model.proofs.RefusalLaws.{read_injective}
use Rattle.model.proofs.WritingLaws.{written_reads, read-written, read_answered}
use Rattle.plan.specs.Answers.{ReadTold}
use Rattle.writing.specs.Writes.{Writes}
use Rattle.writing.specs.declared.WriteRefusal.{WriteRefusal}
use Rattle.writing.proofs.AnswerLaws.{write_injective, written_none, written-size}

-- "Reading what was written gives the same records and the same length"
pub read_back : {plan : Plan} {old new : List ℕ} {r : Result ℕ WriteRefusal} {s : PlanRead} (size : ℕ) → r ≡ Ok size → Writes plan old r new
    → ReadTold s (read new) → (s.answer ≡ Ok size) × (s.plan ≡ value (records_of plan))
read_back {plan} {old} {new} {r} {s} size is w told =
    let reads : read new ≡ accepted (records_of plan) size
    = ap read w.buffer_is ∙ written_reads plan old (written_none size is w) ∙ ap (accepted (records_of plan)) (sym (written-size size is w)) in (
      read_injective s.answer (Ok size) (told.answer_is ∙ ap reading_told reads),
      told.plan_is ∙ ap reading_plan reads,
    )

-- "writing what was read gives the same bytes through the end record"
pub written_back : (bytes : List ℕ) {old new : List ℕ} {r : Result ℕ WriteRefusal} {s : PlanRead} (used : ℕ) → s.answer ≡ Ok used
    → ReadTold s (read bytes) → used ≤ length old → Writes s.plan old r new → (r ≡ Ok used) × (new ≡ take used bytes ++ drop used old)
unfolding read
written_back bytes {old} {new} {r} {s} used is told room w = go (read bytes) refl told
  where
    go : (x : Reading) → read bytes ≡ x → ReadTold s x → (r ≡ Ok used) × (new ≡ take used bytes ++ drop used old)
    go (accepted rs u) e a =
        let said : 0 ∷ used ∷ [] ≡ 0 ∷ u ∷ [] = sym (ap told_read is) ∙ a.answer_is in
        let same : u ≡ used = cc in
        let reads : read bytes ≡ accepted rs used = e ∙ ap (accepted rs) same in
        let its = subst (λ (p : Plan). Writes p old r new) a.plan_is w in (
          write_injective r (Ok used) (its.answer_is ∙ read_answered bytes rs used reads old room),
          its.buffer_is ∙ read-written bytes rs used reads old room,
        )
    go (refused_at n o) e a =
        let said : 0 ∷ used ∷ [] ≡ n ∷ o ∷ [] = sym (ap told_read is) ∙ a.answer_is in
        let none : n ≡ 0 = cc in
        absurd (((read_refuses six end_fault bytes n o).0 e).real none)
