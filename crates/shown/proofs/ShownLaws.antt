-- The whole text: where the end record was reached, the plan that was scanned and its table of dependences say of each node what its records say; and how long
-- it can become. Assumes nothing.
use Prim.Native.Nat.{ℕ, ◌*◌, ◌<◌, ◌≤◌}
use native.Mathlib.Omega.{arith}
use mathlib.Core.Path.{◌≡◌, refl, sym, ap, ap₂, subst, ◌∙◌}
use Rattle.std.specs.Prelude.{Err}
use mathlib.Core.List.{List, [], ◌∷◌, ◌++◌, append-nil}
use lib.ListN.{length, length-append}
use Rattle.lists.proofs.CountLaws.{get_or_inside}
use Rattle.ids.specs.Limits.{nodes}
use Rattle.model.specs.Graph.{Depends}
use Rattle.model.specs.Plan.{Record, place, present, has_edge, site_steps}
use Rattle.model.specs.PlanValue.{nowhere, somewhere, value, records_of, refusal_number, told_read}
use Rattle.model.specs.Reading.{Reading, accepted, refused_at, read, scanned}
use Rattle.model.specs.Records.{RecordsOk}
use Rattle.model.specs.declared.Plan.{Plan}
use Rattle.model.specs.declared.PlanRead.{PlanRead}
use Rattle.model.specs.declared.ReadFault.{ReadFault}
use Rattle.model.proofs.PlanValueLaws.{value_sized, records_value, present-value}
use Rattle.model.proofs.RefusalLaws.{refusal_named}
use Rattle.printable.specs.Tables.{TableTells}
use Rattle.cycles.specs.Within.{within_nodes}
use Rattle.plan.specs.Answers.{ReadTold}
use Rattle.plan.proofs.AnswerLaws.{Reached}
use Rattle.shown.specs.Heading.{heading, first_text}
use Rattle.shown.specs.Dependence.{node_depends}
use Rattle.shown.specs.Lines.{node_texts, plan_text, behind_end, shown_text, is_listed, told_on}
use Rattle.shown.specs.Room.{line_most, shown_most}
use Rattle.shown.proofs.NodeLineLaws.{texts_same, texts_most}
use Rattle.shown.proofs.HeadingLaws.{heading-told, heading_most}
use Rattle.shown.proofs.DependenceLaws.{told_on_depends}

-- what a table holds that tells the dependences of a plan's value
abbrev pub Dependences : List ℕ → Plan → Type 0
Dependences cells p = TableTells cells (Depends (within_nodes (has_edge (records_of p))) (site_steps (records_of p)))

-- a node has a record where it is somewhere
is_listed-value : (rs : List Record) → RecordsOk rs → (n : ℕ) → n < nodes → is_listed (value rs).places n ≡ present (place rs n)
is_listed-value rs ok n h =
    ap somewhere (get_or_inside (value rs).places n 0 nowhere (omega (arith, (value_sized rs).places))) ∙ sym (present-value rs ok n)

value_text : (rs : List Record) → RecordsOk rs → (cells : List ℕ) → Dependences cells (value rs)
    → node_texts (is_listed (value rs).places) (told_on cells) nodes ≡ plan_text rs
unfolding plan_text
value_text rs ok cells tells =
    texts_same (is_listed (value rs).places) (λ n. present (place rs n)) (told_on cells) (node_depends rs) (is_listed-value rs ok)
    (told_on_depends rs ok cells
    (subst (λ (qs : List Record). TableTells cells (Depends (within_nodes (has_edge qs)) (site_steps qs))) (records_value rs ok) tells))

module _ (bytes : List ℕ) where
  -- the end record was reached
  pub shown_reached : (r : PlanRead) → ReadTold r (read bytes) → (p : Plan) (used : ℕ) → Reached bytes p used
      → (cells : List ℕ) → Dependences cells p → first_text r ++ node_texts (is_listed p.places) (told_on cells) nodes ≡ shown_text bytes
  unfolding shown_text
  shown_reached r told p used there cells tells =
      let rs = there.records in
      ap₂ ◌++◌ (heading-told bytes r told)
      (ap (λ (q : Plan). node_texts (is_listed q.places) (told_on cells) nodes) there.plan_is
      ∙ value_text rs there.right cells (subst (Dependences cells) there.plan_is tells)
      ∙ sym (ap behind_end there.scanned-is))

  -- it was not
  pub shown_early : (r : PlanRead) → ReadTold r (read bytes)
      → (s : PlanRead) (fault : ReadFault) → s.answer ≡ Err fault → ReadTold s (scanned bytes)
      → first_text r ≡ shown_text bytes
  unfolding shown_text
  shown_early r told s fault is stopped =
      heading-told bytes r told
      ∙ sym (append-nil (heading (read bytes)))
      ∙ ap (λ (t : List ℕ). heading (read bytes) ++ t) (sym (none-behind (scanned bytes) stopped))
    where
      none-behind : (x : Reading) → ReadTold s x → behind_end x ≡ []
      none-behind (accepted rs used) w =
          let said : refusal_number fault.why ∷ fault.offset ∷ [] ≡ 0 ∷ used ∷ [] = sym (ap told_read is) ∙ w.answer_is in
          let none : refusal_number fault.why ≡ 0 = cc in
          absurd ((refusal_named fault.why).1 none)
      none-behind (refused_at number at) w = refl

-- The room that it takes

behind_most : (x : Reading) → length (behind_end x) ≤ nodes * line_most
unfolding plan_text
behind_most (accepted rs used) = texts_most (λ n. present (place rs n)) (node_depends rs) nodes (omega arith)
behind_most (refused_at number offset) = omega arith

pub shown_bound : (bytes : List ℕ) → length (shown_text bytes) ≤ shown_most
unfolding shown_text
shown_bound bytes =
    omega (arith, length-append (heading (read bytes)) (behind_end (scanned bytes)), heading_most (read bytes), behind_most (scanned bytes))
