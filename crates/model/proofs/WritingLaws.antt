-- What writing a plan gives: the refusals exactly when, a buffer that reads back as the plan, and the same bytes for a plan that was read, since the
-- bytes through the end record are the records' own. Assumes nothing.
use Prim.Native.Nat.{ℕ, ◌≤◌, ◌<◌}
use native.Mathlib.Omega.{arith}
use mathlib.Core.Path.{◌≡◌, refl, sym, ap, ◌∙◌}
use mathlib.Core.Logic.{◌⊎◌, inl, inr, ⊎_elim, ◌↔◌}
use mathlib.Core.List.{List, [], ◌∷◌, ◌++◌}
use lib.Dec.{eqb}
use lib.ListN.{length, take, drop}
use lib.Seq.{take_at, drop_at}
use borrow.Author.Tests.{eqb-true, eqb-false, eq-eqb, ne_eqb, le-leb, lt-leb}
use Rattle.lists.proofs.CountLaws.{lt_or_ge, true_or_false}
use Rattle.model.specs.Plan.{Record, encode}
use Rattle.model.specs.Reading.{accepted, read, PlanOk}
use Rattle.model.specs.PlanValue.{value, records_of}
use Rattle.model.specs.PlanFault.{plan_fault}
use Rattle.model.specs.Writing.{plan_file, write_fault, write_answer, written, Rewriting}
use Rattle.model.specs.declared.Plan.{Plan}
use Rattle.model.proofs.EncodeLaws.{encode_injective}
use Rattle.model.proofs.RecordLaws.{passes_ok}
use Rattle.model.proofs.PlanLaws.{accepted_exactly}
use Rattle.model.proofs.PlanValueLaws.{records_value}
use Rattle.model.proofs.PlanFaultLaws.{plan_fault_none, read_no_fault}

none_or_some : (n : ℕ) → (n ≡ 0) ⊎ (n ≡ 0 → ⊥)
none_or_some n = ⊎_elim (λ e. inl (eqb-true n 0 e)) (λ e. inr (eqb-false n 0 e)) (true_or_false (eqb n 0))

-- The refusals

module _ (p : Plan) (size : ℕ) where
  pub broken_plan : (plan_fault p ≡ 0 → ⊥) → write_fault p size ≡ 18
  unfolding write_fault
  broken_plan bad = rw (ne_eqb (plan_fault p) 0 bad)

  module _ (sound : plan_fault p ≡ 0) where
    pub short_buffer : size < length (plan_file p) → write_fault p size ≡ 10
    unfolding write_fault
    short_buffer less = rw (eq-eqb (plan_fault p) 0 sound, lt-leb (length (plan_file p)) size less)

    pub room_enough : length (plan_file p) ≤ size → write_fault p size ≡ 0
    unfolding write_fault
    room_enough room = rw (eq-eqb (plan_fault p) 0 sound, le-leb (length (plan_file p)) size room)

  -- one of the three holds
  data Outcome : Type 0 where
    broken : (plan_fault p ≡ 0 → ⊥) → write_fault p size ≡ 18 → Outcome
    short : plan_fault p ≡ 0 → size < length (plan_file p) → write_fault p size ≡ 10 → Outcome
    enough : plan_fault p ≡ 0 → length (plan_file p) ≤ size → write_fault p size ≡ 0 → Outcome

  outcome : Outcome
  outcome = ⊎_elim sound (λ bad. broken bad (broken_plan bad)) (none_or_some (plan_fault p))
    where
      sound : plan_fault p ≡ 0 → Outcome
      sound none =
          ⊎_elim
          (λ less. short none less (short_buffer none less))
          (λ room. enough none room (room_enough none room))
          (lt_or_ge size (length (plan_file p)))

  -- each exactly when the request says
  pub refused_18 : (write_fault p size ≡ 18) ↔ (plan_fault p ≡ 0 → ⊥)
  refused_18 = ((λ e bad. go outcome e bad), broken_plan)
    where
      go : Outcome → write_fault p size ≡ 18 → plan_fault p ≡ 0 → ⊥
      go (broken bad is) e none = bad none
      go (short none less is) e sound = omega arith
      go (enough none room is) e sound = omega arith

  pub refused_10 : (write_fault p size ≡ 10) ↔ ((plan_fault p ≡ 0) × (size < length (plan_file p)))
  refused_10 = ((λ e. go outcome e), (λ h. short_buffer h.0 h.1))
    where
      go : Outcome → write_fault p size ≡ 10 → (plan_fault p ≡ 0) × (size < length (plan_file p))
      go (broken bad is) e = absurd (omega arith)
      go (short none less is) e = (none, less)
      go (enough none room is) e = absurd (omega arith)

  pub none_refused : (write_fault p size ≡ 0) ↔ ((plan_fault p ≡ 0) × (length (plan_file p) ≤ size))
  none_refused = ((λ e. go outcome e), (λ h. room_enough h.0 h.1))
    where
      go : Outcome → write_fault p size ≡ 0 → (plan_fault p ≡ 0) × (length (plan_file p) ≤ size)
      go (broken bad is) e = absurd (omega arith)
      go (short none less is) e = absurd (omega arith)
      go (enough none room is) e = (none, room)

  pub answer_refused : {n : ℕ} → write_fault p size ≡ n → (n ≡ 0 → ⊥) → write_answer p size ≡ n ∷ []
  unfolding write_answer
  answer_refused {n} e bad = rw (e, ne_eqb n 0 bad)

  pub answer_length : write_fault p size ≡ 0 → write_answer p size ≡ 0 ∷ length (plan_file p) ∷ []
  unfolding write_answer
  answer_length e = rw (eq-eqb (write_fault p size) 0 e)

-- A file reads back as its plan, whatever stands behind it
pub file_reads : (p : Plan) → plan_fault p ≡ 0 → (rest : List ℕ) → read (plan_file p ++ rest) ≡ accepted (records_of p) (length (plan_file p))
unfolding plan_file
file_reads p sound rest =
    (accepted_exactly (plan_file p ++ rest) (records_of p) (length (plan_file p))).1 (rest, refl, refl, ((plan_fault_none p).0 sound).1)

-- The buffer

module _ (p : Plan) (buffer : List ℕ) where
  -- "A refusal writes nothing"
  pub refused_nothing : (write_fault p (length buffer) ≡ 0 → ⊥) → written p buffer ≡ buffer
  unfolding written
  refused_nothing bad = rw (ne_eqb (write_fault p (length buffer)) 0 bad)

  module _ (none : write_fault p (length buffer) ≡ 0) where
    pub file_in_front : written p buffer ≡ plan_file p ++ drop (length (plan_file p)) buffer
    unfolding written
    file_in_front = rw (eq-eqb (write_fault p (length buffer)) 0 none)

    -- "Reading what was written gives the same records and the same length"
    pub written_reads : read (written p buffer) ≡ accepted (records_of p) (length (plan_file p))
    written_reads =
        ap read file_in_front
        ∙ file_reads p ((none_refused p (length buffer)).0 none).0 (drop (length (plan_file p)) buffer)

  -- "Bytes past the length are untouched", refused or not
  pub untouched : drop (length (plan_file p)) (written p buffer) ≡ drop (length (plan_file p)) buffer
  untouched =
      ⊎_elim
      (λ none. ap (drop size) (file_in_front none) ∙ drop_at (plan_file p) (drop size buffer) size refl)
      (λ bad. ap (drop size) (refused_nothing bad))
      (none_or_some (write_fault p (length buffer)))
    where
      size : ℕ
      size = length (plan_file p)

-- "writing what was read gives the same bytes through the end record"
module _ (bytes : List ℕ) (rs : List Record) (used : ℕ) (e : read bytes ≡ accepted rs used) where
  its_plan : PlanOk rs
  its_plan = ((accepted_exactly bytes rs used).0 e).3

  holds : records_of (value rs) ≡ rs
  holds = records_value rs (passes_ok _ rs its_plan.records)

  pub read_file : plan_file (value rs) ≡ take used bytes
  unfolding plan_file
  read_file =
      let w = (accepted_exactly bytes rs used).0 e in
      ap encode holds ∙ sym (ap (take used) w.1 ∙ take_at (encode rs) w.0 used (sym w.2))

  pub read_length : length (plan_file (value rs)) ≡ used
  unfolding plan_file
  read_length = ap (λ (qs : List Record). length (encode qs)) holds ∙ sym ((accepted_exactly bytes rs used).0 e).2

  module _ (buffer : List ℕ) (room : used ≤ length buffer) where
    none : write_fault (value rs) (length buffer) ≡ 0
    none = room_enough (value rs) (length buffer) (read_no_fault rs its_plan) (omega (arith, read_length))

    pub read-written : written (value rs) buffer ≡ take used bytes ++ drop used buffer
    read-written =
        file_in_front (value rs) buffer none
        ∙ ap (λ (n : ℕ). plan_file (value rs) ++ drop n buffer) read_length
        ∙ ap (λ (file : List ℕ). file ++ drop used buffer) read_file

    pub read_answered : write_answer (value rs) (length buffer) ≡ 0 ∷ used ∷ []
    read_answered = answer_length (value rs) (length buffer) none ∙ ap (λ (n : ℕ). 0 ∷ n ∷ []) read_length

-- "so each plan has one file", and each file one plan

pub same_file : (p q : Plan) → (plan_file p ≡ plan_file q) ↔ (records_of p ≡ records_of q)
unfolding plan_file
same_file p q = (
  (λ e. (encode_injective (records_of p) (records_of q) [] [] (ap (λ (file : List ℕ). file ++ []) e)).0),
  (λ e. ap encode e),
)

pub one_plan : (a b : List ℕ) (rs qs : List Record) (used also : ℕ) → read a ≡ accepted rs used → read b ≡ accepted qs also
    → (value rs ≡ value qs) ↔ (take used a ≡ take also b)
one_plan a b rs qs used also ra rb = (
  (λ e. sym (read_file a rs used ra) ∙ ap plan_file e ∙ read_file b qs also rb),
  (λ e.
      let same = (same_file (value rs) (value qs)).0 (read_file a rs used ra ∙ e ∙ sym (read_file b qs also rb)) in
      ap value (sym (holds a rs used ra) ∙ same ∙ holds b qs also rb)),
)

-- The sentences of request 2/14
pub rewriting : Rewriting
rewriting =
    record {
      past_the_length = untouched;
      reads_back = written_reads;
      writes_back = λ bytes rs used e buffer room. (read-written bytes rs used e buffer room, read_answered bytes rs used e buffer room);
      plan_and_file = one_plan;
      nothing_written = refused_nothing;
      refused_18 = refused_18;
      refused_10 = refused_10;
    }
