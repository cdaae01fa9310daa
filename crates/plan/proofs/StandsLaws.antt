-- The record that was found at an offset stands there: by the kind byte, and by the bytes of its body. Assumes nothing.
use Prim.Native.Nat.{ℕ, suc, ◌+◌}
use native.Mathlib.Omega.{arith}
use borrow.Author.Tests.{eqb-true, le-leb}
use mathlib.Core.Path.{◌≡◌, refl, sym, ap, subst, subst₂, ◌∙◌}
use mathlib.Core.Bool.{Bool, true, false}
use mathlib.Core.Option.{Option, none, some}
use Rattle.std.specs.Prelude.{Result, Ok, Err}
use mathlib.Core.List.{List, [], ◌∷◌, ◌++◌}
use lib.ListN.{length, drop}
use lib.Dec.{eqb}
use Rattle.model.specs.House.{next, of_kind}
use Rattle.model.specs.Plan.{Record, site, node, edge, plan_kinds, bytes_of}
use Rattle.model.specs.declared.PlanRecord.{PlanRecord}
use Rattle.model.specs.declared.PlanRefusal.{PlanRefusal}
use Rattle.record.specs.Step.{next_in, from_next}
use Rattle.record.specs.declared.Found.{Found}

-- what stands at an offset is a record
abbrev pub Whole : PlanRecord → ℕ → Result Found PlanRefusal
Whole r behind = Ok (record { next = r; behind = behind })

-- a record of the file as a record of the plan, none for the end record
abbrev pub as_record : PlanRecord → Option Record
as_record (PlanRecord.Site s t) = some (site s.0 t)
as_record (PlanRecord.Node n s l) = some (node n.0 s.0 l.0)
as_record (PlanRecord.Edge c d) = some (edge c.0 d.0)
as_record PlanRecord.End = none

-- the bytes at an offset begin with this record, and the next offset is the one behind it
abbrev pub Stands : List ℕ → ℕ → Option Record → ℕ → Type 0
Stands tail at none behind = (rest : List ℕ) × (tail ≡ 4 ∷ rest) × (behind ≡ at + 1)
Stands tail at (some r) behind = (rest : List ℕ) × (tail ≡ bytes_of r ++ rest) × (behind ≡ at + length (bytes_of r))

module _ (at : ℕ) (nx : PlanRecord) (behind : ℕ) where
  abbrev Finds : List ℕ → Type 0
  Finds tail = from_next (next plan_kinds tail) at ≡ Whole nx behind → Stands tail at (as_record nx) behind

  -- what was found is this record
  found-is : (tail : List ℕ) (r : PlanRecord) (to : ℕ)
      → Stands tail at (as_record r) to → Whole r to ≡ Whole nx behind → Stands tail at (as_record nx) behind
  found-is tail r to t e =
      let same : ◌≡◌ {A = Found} (record { next = r; behind = to }) (record { next = nx; behind = behind }) = cc in
      let p : r ≡ nx = ap (λ (f : Found). f.next) same in
      let q : to ≡ behind = ap (λ (f : Found). f.behind) same in
      subst₂ (λ (x : PlanRecord) (b : ℕ). Stands tail at (as_record x) b) p q t

  never : {A : Type 0} → Err PlanRefusal.InputEnds ≡ Whole nx behind → A
  never e = absurd (cc)

  found_site : (bs : List ℕ) → Finds (1 ∷ bs)
  unfolding next bytes_of
  found_site [] e = never e
  found_site (x ∷ []) e = never e
  found_site (x ∷ y ∷ zs) e =
      found-is (1 ∷ x ∷ y ∷ zs) (PlanRecord.Site (record { 0 = x }) y) (at + 3) (zs, refl, refl)
      (rw (le-leb 2 (suc (suc (length zs))) (omega arith)) at e)

  found_node : (bs : List ℕ) → Finds (2 ∷ bs)
  unfolding next bytes_of
  found_node [] e = never e
  found_node (x ∷ []) e = never e
  found_node (x ∷ y ∷ []) e = never e
  found_node (x ∷ y ∷ z ∷ zs) e =
      found-is (2 ∷ x ∷ y ∷ z ∷ zs) (PlanRecord.Node (record { 0 = x }) (record { 0 = y }) (record { 0 = z })) (at + 4) (zs, refl, refl)
      (rw (le-leb 3 (suc (suc (suc (length zs)))) (omega arith)) at e)

  found_edge : (bs : List ℕ) → Finds (3 ∷ bs)
  unfolding next bytes_of
  found_edge [] e = never e
  found_edge (x ∷ []) e = never e
  found_edge (x ∷ y ∷ zs) e =
      found-is (3 ∷ x ∷ y ∷ zs) (PlanRecord.Edge (record { 0 = x }) (record { 0 = y })) (at + 3) (zs, refl, refl)
      (rw (le-leb 2 (suc (suc (length zs))) (omega arith)) at e)

  found_end : (bs : List ℕ) → Finds (4 ∷ bs)
  unfolding next
  found_end bs e = found-is (4 ∷ bs) PlanRecord.End (at + 1) (bs, refl, refl) (rw (le-leb 0 (length bs) (omega arith)) at e)

  found_none : (k : ℕ) (bs : List ℕ) → plan_kinds k ≡ none → Finds (k ∷ bs)
  unfolding next
  found_none k bs strange e =
      let u : Err PlanRefusal.UnknownKind ≡ Whole nx behind
      = sym (ap (λ (o : Option ℕ). from_next (of_kind o k bs) at) strange) ∙ e in
      absurd (cc)

  found-kind : (k : ℕ) (bs : List ℕ) → Finds (k ∷ bs)
  found-kind k bs = one (eqb k 1) refl
    where
      at-kind : (j : ℕ) → eqb k j ≡ true → Finds (j ∷ bs) → Finds (k ∷ bs)
      at-kind j e f = subst (λ (i : ℕ). Finds (i ∷ bs)) (sym (eqb-true k j e)) f

      four : (b : Bool) → eqb k 4 ≡ b → eqb k 1 ≡ false → eqb k 2 ≡ false → eqb k 3 ≡ false → Finds (k ∷ bs)
      four true e p q r = at-kind 4 e (found_end bs)
      four false e p q r = found_none k bs (rw (p, q, r, e))

      three : (b : Bool) → eqb k 3 ≡ b → eqb k 1 ≡ false → eqb k 2 ≡ false → Finds (k ∷ bs)
      three true e p q = at-kind 3 e (found_edge bs)
      three false e p q = four (eqb k 4) refl p q e

      two : (b : Bool) → eqb k 2 ≡ b → eqb k 1 ≡ false → Finds (k ∷ bs)
      two true e p = at-kind 2 e (found_node bs)
      two false e p = three (eqb k 3) refl p e

      one : (b : Bool) → eqb k 1 ≡ b → Finds (k ∷ bs)
      one true e = at-kind 1 e (found_site bs)
      one false e = two (eqb k 2) refl e

  found : (tail : List ℕ) → Finds tail
  unfolding next
  found [] e = never e
  found (k ∷ bs) e = found-kind k bs e

pub stands : (bytes : List ℕ) (at : ℕ) (nx : PlanRecord) (behind : ℕ)
    → next_in bytes at ≡ Whole nx behind → Stands (drop at bytes) at (as_record nx) behind
stands bytes at nx behind e = found at nx behind (drop at bytes) e
