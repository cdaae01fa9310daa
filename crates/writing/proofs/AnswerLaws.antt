-- The promise determines the answer and the whole buffer: the telling's entries show the case and its length, and a length that is told lies within the
-- buffer. Assumes nothing.
use Prim.Native.Nat.{ℕ, ◌≤◌}
use native.Mathlib.Omega.{arith}
use mathlib.Core.Path.{◌≡◌, refl, sym, ap, ◌∙◌}
use mathlib.Core.Bool.{Bool, true, false}
use Rattle.std.specs.Prelude.{Result, Ok, Err}
use mathlib.Core.List.{List, [], ◌∷◌}
use lib.Dec.{eqb}
use lib.ListN.{length, drop, length-append}
use borrow.Author.Tests.{eqb-true, eqb-false}
use Rattle.model.specs.Writing.{plan_file, write_fault, write_answer}
use Rattle.model.specs.declared.Plan.{Plan}
use Rattle.model.proofs.WritingLaws.{answer_refused, answer_length, file_in_front}
use Rattle.writing.specs.Writes.{told_write, Writes}
use Rattle.writing.specs.declared.WriteRefusal.{WriteRefusal}

pub write_injective : (x y : Result ℕ WriteRefusal) → told_write x ≡ told_write y → x ≡ y
write_injective (Ok n) (Ok m) e = let q : n ≡ m = cc in ap Ok q
write_injective (Ok n) (Err why) e = cc
write_injective (Err why) (Ok m) e = cc
write_injective (Err WriteRefusal.BrokenPlan) (Err WriteRefusal.BrokenPlan) e = refl
write_injective (Err WriteRefusal.BrokenPlan) (Err WriteRefusal.ShortBuffer) e = let z : ◌≡◌ {A = ℕ} 18 10 = cc in absurd (omega arith)
write_injective (Err WriteRefusal.ShortBuffer) (Err WriteRefusal.BrokenPlan) e = let z : ◌≡◌ {A = ℕ} 10 18 = cc in absurd (omega arith)
write_injective (Err WriteRefusal.ShortBuffer) (Err WriteRefusal.ShortBuffer) e = refl

pub writes_once : {plan : Plan} {old new also : List ℕ} {r s : Result ℕ WriteRefusal} → Writes plan old r new → Writes plan old s also → (r ≡ s) × (new ≡ also)
writes_once {plan} {old} {new} {also} {r} {s} a b = (
  write_injective r s (a.answer_is ∙ sym b.answer_is),
  a.buffer_is ∙ sym b.buffer_is,
)

-- a length is answered only where there is no refusal, and is the file's
module _ {plan : Plan} {old new : List ℕ} {r : Result ℕ WriteRefusal} (size : ℕ) (is : r ≡ Ok size) (w : Writes plan old r new) where
  told : 0 ∷ size ∷ [] ≡ write_answer plan (length old)
  told = sym (ap told_write is) ∙ w.answer_is

  pub written_none : write_fault plan (length old) ≡ 0
  written_none = go (eqb (write_fault plan (length old)) 0) refl
    where
      go : (b : Bool) → eqb (write_fault plan (length old)) 0 ≡ b → write_fault plan (length old) ≡ 0
      go true e = eqb-true (write_fault plan (length old)) 0 e
      go false e =
          let same = told ∙ answer_refused plan (length old) refl (eqb-false (write_fault plan (length old)) 0 e) in
          let z : ◌≡◌ {A = ℕ} 0 1 = cc in
          absurd (omega arith)

  pub written-size : size ≡ length (plan_file plan)
  written-size = let same : 0 ∷ size ∷ [] ≡ 0 ∷ length (plan_file plan) ∷ [] = told ∙ answer_length plan (length old) written_none in cc

  pub written_inside : size ≤ length new
  written_inside =
      let long = ap length (w.buffer_is ∙ file_in_front plan old written_none) in
      omega (arith, written-size, length-append (plan_file plan) (drop (length (plan_file plan)) old))
