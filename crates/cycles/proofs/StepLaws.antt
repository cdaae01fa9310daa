-- The steps within a site as rows: the records of a plan's value say what its two arrays hold, and a row that has taken the steps to the nodes below some
-- number has what it had and these, and of the others what it had. Assumes nothing.
use Prim.Native.Nat.{ℕ, ◌+◌, ◌<◌, ◌≤◌}
use native.Mathlib.Omega.{arith}
use mathlib.Core.Path.{◌≡◌, refl, sym, ap, ap₂, ◌∙◌}
use mathlib.Core.Bool.{Bool, true, false, ◌||◌, cond, or-false, or-true}
use mathlib.Core.List.{List}
use mathlib.Core.Option.{none, some}
use lib.Dec.{eqb, leb}
use lib.ListN.{length, get_or}
use borrow.Author.Count.{below_more}
use borrow.Author.Tests.{eqb-true, eqb-false, eq-eqb, ne_eqb}
use Rattle.lists.proofs.CountLaws.{get_or_inside}
use Rattle.ids.specs.Limits.{nodes}
use Rattle.model.specs.Graph.{either}
use Rattle.model.specs.Plan.{Place, site_steps, descends}
use Rattle.model.specs.PlanValue.{Sized, nowhere, somewhere, records_of, held}
use Rattle.model.specs.declared.Plan.{Plan}
use Rattle.model.proofs.HeldLaws.{place_of}
use Rattle.words.specs.Words.{member, inserted}
use Rattle.words.proofs.WordLaws.{member-inserted}
use Rattle.links.specs.Rows.{linked, RowsTell}
use Rattle.cycles.specs.Within.{steps_in, WithSteps}

-- The steps within a site

module _ (p : Plan) (sized : Sized p) (n m : ℕ) (hn : n < nodes) where
  steps_held : site_steps (records_of p) n m ≡ descends (held p n) (held p m)
  unfolding site_steps
  steps_held = ap₂ descends (place_of p sized n) (place_of p sized m)

  its_site : get_or p.places n 0 ≡ get_or p.places n nowhere
  its_site = get_or_inside p.places n 0 nowhere (omega (arith, sized.places))

  -- from a node without a record there is none
  step-nowhere : somewhere (get_or p.places n 0) ≡ false → site_steps (records_of p) n m ≡ false
  unfolding held
  step-nowhere h = steps_held ∙ rw (sym (ap somewhere its_site) ∙ h)

  module _ (hm : m < nodes) (listed : somewhere (get_or p.places n 0) ≡ true) where
    its_other : get_or p.places m 0 ≡ get_or p.places m nowhere
    its_other = get_or_inside p.places m 0 nowhere (omega (arith, sized.places))

    -- nor to a node elsewhere
    step_elsewhere : (get_or p.places m 0 ≡ get_or p.places n 0 → ⊥) → site_steps (records_of p) n m ≡ false
    unfolding held
    step_elsewhere apart = steps_held ∙ rw (sym (ap somewhere its_site) ∙ listed) (go (somewhere (get_or p.places m nowhere)))
      where
        one : Place
        one = record { at = get_or p.places n nowhere; level = get_or p.levels n 0 }

        two : Place
        two = record { at = get_or p.places m nowhere; level = get_or p.levels m 0 }

        go : (b : Bool) → descends (some one) (cond b (some two) none) ≡ false
        go true = rw (ne_eqb (get_or p.places n nowhere) (get_or p.places m nowhere) (λ e. apart (its_other ∙ sym e ∙ sym its_site)))
        go false = refl

    -- and at one site the levels decide
    step_level : get_or p.places m 0 ≡ get_or p.places n 0 → site_steps (records_of p) n m ≡ leb (get_or p.levels m 0) (get_or p.levels n 0)
    unfolding held
    step_level same =
        steps_held
        ∙ rw (
          sym (ap somewhere its_site) ∙ listed,
          sym (ap somewhere its_other) ∙ ap somewhere same ∙ listed,
          eq-eqb (get_or p.places n nowhere) (get_or p.places m nowhere) (sym its_site ∙ sym same ∙ its_other),
        )

-- the steps over the two arrays are those of the plan's records
steps_same : (p : Plan) → Sized p → (n m : ℕ) → n < nodes → m < nodes → steps_in p.places p.levels n m ≡ site_steps (records_of p) n m
unfolding steps_in
steps_same p sized n m hn hm = go (somewhere here) (eqb there here) refl refl
  where
    here : ℕ
    here = get_or p.places n 0

    there : ℕ
    there = get_or p.places m 0

    go : (b e : Bool) → somewhere here ≡ b → eqb there here ≡ e
        → cond b (cond e (leb (get_or p.levels m 0) (get_or p.levels n 0)) false) false ≡ site_steps (records_of p) n m
    go true true listed e = sym (step_level p sized n m hn hm listed (eqb-true there here e))
    go true false listed e = sym (step_elsewhere p sized n m hn hm listed (eqb-false there here e))
    go false e unlisted f = sym (step-nowhere p sized n m hn unlisted)

-- One row: the nodes below m are decided
pub record Stepping (set word : ℕ) (row : ℕ → Bool) (m : ℕ) : Type 0 where
  pub done : (i : ℕ) → i < m → member word i ≡ (member set i || row i)
  pub left : (i : ℕ) → m ≤ i → member word i ≡ member set i
  pub up_to : m ≤ nodes

module _ (set word : ℕ) (row : ℕ → Bool) (m : ℕ) (inside : m < nodes) (so_far : Stepping set word row m) where
  pub stepping_skip : row m ≡ false → Stepping set word row (m + 1)
  stepping_skip e =
      record {
        done =
            below_more (λ i. member word i ≡ (member set i || row i)) m so_far.done
            (so_far.left m (omega arith) ∙ sym (ap (λ (b : Bool). member set m || b) e ∙ or-false (member set m)));
        left = λ i h. so_far.left i (omega arith);
        up_to = omega arith;
      }

  pub stepping_with : row m ≡ true → Stepping set (inserted word m) row (m + 1)
  stepping_with e =
      record {
        done =
            below_more (λ i. member (inserted word m) i ≡ (member set i || row i)) m
            (λ i h. other i (λ q. omega arith) ∙ so_far.done i h)
            (member-inserted word m m inside
            ∙ ap (λ (b : Bool). member word m || b) (eq-eqb m m refl)
            ∙ or-true (member word m)
            ∙ sym (ap (λ (b : Bool). member set m || b) e ∙ or-true (member set m)));
        left = λ i h. other i (λ q. omega arith) ∙ so_far.left i (omega arith);
        up_to = omega arith;
      }
    where
      other : (i : ℕ) → (m ≡ i → ⊥) → member (inserted word m) i ≡ member word i
      other i apart =
          member-inserted word m i inside ∙ ap (λ (b : Bool). member word i || b) (ne_eqb m i apart) ∙ or-false (member word i)

-- All rows: those of the nodes below n have taken their steps
pub record SteppingRows (old rows places levels : List ℕ) (n : ℕ) : Type 0 where
  pub done : (i : ℕ) → i < n → WithSteps (get_or old i 0) (get_or rows i 0) (steps_in places levels i)
  pub left : (i : ℕ) → n ≤ i → get_or rows i 0 ≡ get_or old i 0
  pub long : length rows ≡ length old
  pub up_to : n ≤ nodes

pub rows_all : (old rows places levels : List ℕ) → SteppingRows old rows places levels nodes
    → RowsTell rows (either (linked old) (steps_in places levels))
unfolding linked
rows_all old rows places levels so n m hn hm = so.done n hn m hm

-- and over a plan's arrays these are the plan's
pub rows_plan : (p : Plan) → Sized p → (old rows : List ℕ) → RowsTell rows (either (linked old) (steps_in p.places p.levels))
    → RowsTell rows (either (linked old) (site_steps (records_of p)))
rows_plan p sized old rows tell n m hn hm = tell n m hn hm ∙ ap (λ (b : Bool). linked old n m || b) (steps_same p sized n m hn hm)
