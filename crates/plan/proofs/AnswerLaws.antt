-- What the answers tell: a refusal has the empty plan, and a reading that reached the end record is finished by the checks there, since these come
-- last. Assumes nothing.
use Prim.Native.Nat.{ℕ, ◌+◌, ◌-◌, ◌<◌}
use native.Mathlib.Omega.{arith}
use mathlib.Core.Path.{◌≡◌, refl, sym, ap, subst, ◌∙◌}
use Rattle.std.specs.Prelude.{Ok, Err}
use mathlib.Core.List.{List, [], ◌∷◌}
use lib.Dec.{eqb}
use borrow.Author.Tests.{eq-eqb, ne_eqb}
use Rattle.model.specs.Plan.{Record, six, end_fault}
use Rattle.model.specs.Reading.{Reading, accepted, refused_at, finish, unchecked, end_checked, read, scanned}
use Rattle.model.specs.Records.{RecordsOk}
use Rattle.model.specs.PlanValue.{value, records_of, empty_plan, refusal_number, told_read, reading_told, reading_plan}
use Rattle.model.specs.declared.Plan.{Plan}
use Rattle.model.specs.declared.PlanRead.{PlanRead}
use Rattle.model.specs.declared.PlanRefusal.{PlanRefusal}
use Rattle.model.specs.declared.ReadFault.{ReadFault}
use Rattle.model.proofs.ReadingLaws.{read-accepts, read_refuses, checks_last, encode-length}
use Rattle.model.proofs.RecordLaws.{passes_ok}
use Rattle.model.proofs.PlanValueLaws.{records_value}
use Rattle.model.proofs.RefusalLaws.{refusal_named}
use Rattle.record.specs.Whole.{WholeFault}
use Rattle.record.proofs.WholeLaws.{whole_is}
use Rattle.plan.specs.Answers.{ReadTold}

pub refused_answers : {r : PlanRead} {reading : Reading} (why : PlanRefusal) (at : ℕ)
    → r.answer ≡ Err (record { why = why; offset = at }) → r.plan ≡ empty_plan → reading ≡ refused_at (refusal_number why) at → ReadTold r reading
refused_answers why at e none f =
    record { answer_is = ap told_read e ∙ sym (ap reading_told f); plan_is = none ∙ sym (ap reading_plan f) }

pub accepted_answers : {r : PlanRead} {reading : Reading} (rs : List Record) (used : ℕ)
    → r.answer ≡ Ok used → r.plan ≡ value rs → reading ≡ accepted rs used → ReadTold r reading
accepted_answers rs used e is f =
    record { answer_is = ap told_read e ∙ sym (ap reading_told f); plan_is = is ∙ sym (ap reading_plan f) }

module _ (bytes : List ℕ) where
  read_is : read bytes ≡ end_checked end_fault (scanned bytes)
  unfolding read scanned
  read_is = checks_last six end_fault bytes

  -- a reading that stopped before the end record
  pub stops_early : (s : PlanRead) (fault : ReadFault) → s.answer ≡ Err fault → ReadTold s (scanned bytes)
      → ReadTold s (read bytes)
  stops_early s fault is told = go (scanned bytes) refl told
    where
      go : (x : Reading) → scanned bytes ≡ x → ReadTold s x → ReadTold s (read bytes)
      go (accepted rs used) e a =
          let z : refusal_number fault.why ≡ 0 = head-same (sym (ap told_read is) ∙ a.answer_is) in absurd ((refusal_named fault.why).1 z)
        where
          head-same : {m n : ℕ} {a b : List ℕ} → m ∷ a ≡ n ∷ b → m ≡ n
          head-same p = cc
      go (refused_at n o) e a = subst (ReadTold s) (sym (read_is ∙ ap (end_checked end_fault) e)) a

  -- a reading that reached it
  pub record Reached (plan : Plan) (used : ℕ) : Type 0 where
    pub records : List Record
    pub right : RecordsOk records
    pub plan_is : plan ≡ value records
    pub scanned-is : scanned bytes ≡ accepted records used
    pub end_byte : 0 < used

  pub reached : (s : PlanRead) (used : ℕ) → s.answer ≡ Ok used → ReadTold s (scanned bytes) → Reached s.plan used
  unfolding scanned
  reached s used is told = go (scanned bytes) refl told
    where
      go : (x : Reading) → scanned bytes ≡ x → ReadTold s x → Reached s.plan used
      go (accepted rs u) e a =
          let said : 0 ∷ used ∷ [] ≡ 0 ∷ u ∷ [] = sym (ap told_read is) ∙ a.answer_is in
          let same : u ≡ used = cc in
          let w = (read-accepts six unchecked bytes rs u).0 e in
          record {
            records = rs;
            right = passes_ok six rs w.passing;
            plan_is = a.plan_is;
            scanned-is = e ∙ ap (accepted rs) same;
            end_byte = omega (arith, same, w.used_is, encode-length rs);
          }
      go (refused_at n o) e a =
          let said : 0 ∷ used ∷ [] ≡ n ∷ o ∷ [] = sym (ap told_read is) ∙ a.answer_is in
          let none : n ≡ 0 = cc in
          absurd (((read_refuses six unchecked bytes n o).0 e).real none)

  module _ (plan : Plan) (used : ℕ) (at-end : Reached plan used) where
    fault_is : {n : ℕ} → WholeFault plan n → n ≡ end_fault at-end.records
    fault_is fault =
        let holds : records_of plan ≡ at-end.records = ap records_of at-end.plan_is ∙ records_value at-end.records at-end.right in
        whole_is plan (subst RecordsOk (sym holds) at-end.right) fault ∙ ap end_fault holds

    read_finished : read bytes ≡ finish (eqb (end_fault at-end.records) 0) (end_fault at-end.records) at-end.records (used - 1)
    read_finished = read_is ∙ ap (end_checked end_fault) at-end.scanned-is

    -- with no fault there, it is what is read
    pub passes_end : (s : PlanRead) → s.answer ≡ Ok used → s.plan ≡ plan → WholeFault plan 0 → ReadTold s (read bytes)
    passes_end s is same fault =
        let back : used - 1 + 1 ≡ used = omega (arith, at-end.end_byte) in
        let whole : read bytes ≡ accepted at-end.records used
        = read_finished ∙ rw (eq-eqb (end_fault at-end.records) 0 (sym (fault_is fault))) (ap (accepted at-end.records) back) in
        record {
          answer_is = ap told_read is ∙ sym (ap reading_told whole);
          plan_is = same ∙ at-end.plan_is ∙ sym (ap reading_plan whole);
        }

    -- and with one it is refused at the end record
    pub fails_end : (why : PlanRefusal) → WholeFault plan (refusal_number why) → read bytes ≡ refused_at (refusal_number why) (used - 1)
    fails_end why fault =
        let n = fault_is fault in
        read_finished
        ∙ rw (ne_eqb (end_fault at-end.records) 0 (λ z. (refusal_named why).1 (n ∙ z))) (ap (λ (k : ℕ). refused_at k (used - 1)) (sym n))
