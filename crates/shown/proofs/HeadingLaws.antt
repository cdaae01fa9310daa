-- The first line: it is made of what `plan::read` answers, and so is the model's for the reading, since a plan's value holds the records that were read.
-- Assumes nothing.
use Prim.Native.Nat.{ℕ, ◌≤◌}
use native.Mathlib.Omega.{arith}
use mathlib.Core.Path.{◌≡◌, refl, sym, ap, ap₂, ◌∙◌}
use Rattle.std.specs.Prelude.{Result, Ok, Err}
use mathlib.Core.List.{List, [], ◌∷◌, ◌++◌, append-nil}
use lib.ListN.{length, length-append}
use Rattle.model.specs.Plan.{Record, sites_of, listed, edges, six, end_fault}
use Rattle.model.specs.PlanValue.{value, refusal_number, told_read}
use Rattle.model.specs.Reading.{Reading, accepted, refused_at, read}
use Rattle.model.specs.Records.{RecordsOk}
use Rattle.model.specs.Text.{Text, plan_line, plan_refused_line}
use Rattle.model.specs.Transcript.{transcript, behind_plan}
use Rattle.model.specs.declared.PlanRead.{PlanRead}
use Rattle.model.specs.declared.ReadFault.{ReadFault}
use Rattle.model.proofs.PlanValueLaws.{records_value, edges-value}
use Rattle.model.proofs.ReadingLaws.{read-accepts, read_refuses}
use Rattle.model.proofs.RecordLaws.{passes_ok}
use Rattle.model.proofs.RefusalLaws.{refusal_named}
use Rattle.plan.specs.Answers.{ReadTold}
use Rattle.text.specs.Room.{plan_room}
use Rattle.text.proofs.DigitLaws.{spaced_long}
use Rattle.shown.specs.Heading.{heading, site_count, node_count, answer_line, first_text}

-- The line that is made

module _ (r : PlanRead) where
  pub accepted_line : (used sites nodes : ℕ) → r.answer ≡ Ok used → sites ≡ site_count r.plan → nodes ≡ node_count r.plan
      → plan_line sites nodes r.plan.edges used ≡ first_text r
  unfolding first_text
  accepted_line used sites nodes is s n =
      ap₂ (λ (x y : ℕ). plan_line x y r.plan.edges used) s n ∙ sym (ap (λ (a : Result ℕ ReadFault). answer_line a r.plan) is)

  pub refused_line : (fault : ReadFault) (number : ℕ) → r.answer ≡ Err fault → number ≡ refusal_number fault.why
      → plan_refused_line number fault.offset ≡ first_text r
  unfolding first_text
  refused_line fault number is n =
      ap (λ (x : ℕ). plan_refused_line x fault.offset) n ∙ sym (ap (λ (a : Result ℕ ReadFault). answer_line a r.plan) is)

-- It is the model's

-- the counts of a value are those of its records
module _ (rs : List Record) (ok : RecordsOk rs) where
  sites-value : site_count (value rs) ≡ length (sites_of rs)
  unfolding site_count
  sites-value = ap (λ (qs : List Record). length (sites_of qs)) (records_value rs ok)

  nodes-value : node_count (value rs) ≡ length (listed rs)
  unfolding node_count
  nodes-value = ap (λ (qs : List Record). length (listed qs)) (records_value rs ok)

  value_line : (used : ℕ) → answer_line (Ok used) (value rs) ≡ heading (accepted rs used)
  value_line used =
      ap₂ (λ (x y : ℕ). plan_line x y (value rs).edges used) sites-value nodes-value
      ∙ ap (λ (x : ℕ). plan_line (length (sites_of rs)) (length (listed rs)) x used) (edges-value rs)

-- a reading that accepts has records that are right, and one that refuses has a number
module _ (bytes : List ℕ) where
  read_right : (rs : List Record) (used : ℕ) → read bytes ≡ accepted rs used → RecordsOk rs
  unfolding read
  read_right rs used e = passes_ok six rs ((read-accepts six end_fault bytes rs used).0 e).passing

  read_real : (number offset : ℕ) → read bytes ≡ refused_at number offset → number ≡ 0 → ⊥
  unfolding read
  read_real number offset e = ((read_refuses six end_fault bytes number offset).0 e).real

  pub heading-told : (r : PlanRead) → ReadTold r (read bytes) → first_text r ≡ heading (read bytes)
  unfolding first_text
  heading-told r told = go (read bytes) r.answer refl refl told
    where
      go : (x : Reading) (a : Result ℕ ReadFault) → read bytes ≡ x → r.answer ≡ a → ReadTold r x → answer_line r.answer r.plan ≡ heading (read bytes)
      go (accepted rs used) (Ok u) e is w =
          let said : 0 ∷ u ∷ [] ≡ 0 ∷ used ∷ [] = sym (ap told_read is) ∙ w.answer_is in
          let same : u ≡ used = cc in
          ap₂ answer_line (is ∙ ap Ok same) w.plan_is ∙ value_line rs (read_right rs used e) used ∙ sym (ap heading e)
      go (accepted rs used) (Err fault) e is w =
          let said : refusal_number fault.why ∷ fault.offset ∷ [] ≡ 0 ∷ used ∷ [] = sym (ap told_read is) ∙ w.answer_is in
          let none : refusal_number fault.why ≡ 0 = cc in
          absurd ((refusal_named fault.why).1 none)
      go (refused_at number offset) (Ok u) e is w =
          let said : 0 ∷ u ∷ [] ≡ number ∷ offset ∷ [] = sym (ap told_read is) ∙ w.answer_is in
          let none : number ≡ 0 = cc in
          absurd (read_real number offset e none)
      go (refused_at number offset) (Err fault) e is w =
          let said : refusal_number fault.why ∷ fault.offset ∷ [] ≡ number ∷ offset ∷ [] = sym (ap told_read is) ∙ w.answer_is in
          let same : refusal_number fault.why ≡ number = cc in
          let there : fault.offset ≡ offset = cc in
          ap (λ (x : Result ℕ ReadFault). answer_line x r.plan) is ∙ ap₂ plan_refused_line same there ∙ sym (ap heading e)

  -- and begins the transcript of the bench program
  pub heading-first : (rest : Text) × (transcript bytes ≡ heading (read bytes) ++ rest)
  unfolding transcript
  heading-first = go (read bytes)
    where
      go : (x : Reading) → (rest : Text) × (behind_plan bytes x ≡ heading x ++ rest)
      go (accepted rs used) = (_, refl)
      go (refused_at number offset) = ([], sym (append-nil (plan_refused_line number offset)))

-- How long it can become

accepted_most : (sites nodes edges bytes : ℕ) → length (plan_line sites nodes edges bytes) ≤ plan_room
unfolding plan_line
accepted_most sites nodes edges bytes =
    simp length-append (omega (arith, spaced_long sites, spaced_long nodes, spaced_long edges, spaced_long bytes))

refused_most : (number offset : ℕ) → length (plan_refused_line number offset) ≤ plan_room
unfolding plan_refused_line
refused_most number offset = simp length-append (omega (arith, spaced_long number, spaced_long offset))

pub heading_most : (x : Reading) → length (heading x) ≤ plan_room
heading_most (accepted rs used) = accepted_most (length (sites_of rs)) (length (listed rs)) (edges rs) used
heading_most (refused_at number offset) = refused_most number offset

pub first_text_most : (r : PlanRead) → length (first_text r) ≤ plan_room
unfolding first_text
first_text_most r = go r.answer
  where
    go : (a : Result ℕ ReadFault) → length (answer_line a r.plan) ≤ plan_room
    go (Ok used) = accepted_most (site_count r.plan) (node_count r.plan) r.plan.edges used
    go (Err fault) = refused_most (refusal_number fault.why) fault.offset
