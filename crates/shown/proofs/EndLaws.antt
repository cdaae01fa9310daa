-- The lines of the nodes stand just where the reading is accepted or refused 7 or 8: the checks on the whole plan come last, and no record is refused so.
-- Assumes nothing.
use Prim.Native.Nat.{ℕ, ◌-◌, ◌<◌}
use native.Mathlib.Omega.{arith}
use mathlib.Core.Path.{◌≡◌, refl, sym, ap, subst, ◌∙◌}
use mathlib.Core.Logic.{◌⊎◌, inl, inr, ⊎_elim, ◌↔◌}
use mathlib.Core.Bool.{Bool, true, false, not}
use mathlib.Core.List.{List, [], ◌∷◌, ◌++◌}
use lib.Dec.{eqb}
use Rattle.model.specs.Faults.{Fault, no_kind, strange_kind, short_body, of_record, of_plan}
use Rattle.model.specs.Plan.{Record, follows, in_range, known, room_for, six, record_fault, first_fault, loops, self_depends, end_fault}
use Rattle.model.specs.Reading.{Reading, accepted, refused_at, finish, unchecked, end_checked, read, scanned}
use Rattle.model.proofs.FaultLaws.{fault_is}
use Rattle.model.proofs.ReadingLaws.{read_refuses, checks_last}
use Rattle.model.proofs.TestLaws.{absent, absent_never}
use Rattle.shown.specs.Lines.{Ended}

-- no record is refused 7 or 8
module _ (rs : List Record) (r : Record) where
  abbrev tests : List (Bool × ℕ)
  tests = ((follows rs r, 3) ∷ (in_range r, 4) ∷ (known rs r, 5) ∷ []) ++ six.tests rs r ++ ((room_for rs r, 9) ∷ [])

  no_record_fault : (n : ℕ) → absent n tests ≡ true → record_fault six rs r ≡ n → ⊥
  unfolding record_fault
  no_record_fault n a e = absent_never n tests a e

over_six : (n : ℕ) → (n ≡ 7) ⊎ (n ≡ 8) → 6 < n
over_six n h = ⊎_elim (λ (l : n ≡ 7). omega arith) (λ (l : n ≡ 8). omega arith) h

early_never : (rs : List Record) (tail : List ℕ) (n : ℕ) → Fault six unchecked rs tail n → (n ≡ 7) ⊎ (n ≡ 8) → ⊥
early_never rs tail n (no_kind e q) h = omega (arith, over_six n h)
early_never rs tail n (strange_kind kind rest e out q) h = omega (arith, over_six n h)
early_never rs tail n (short_body kind size rest e given few q) h = omega (arith, over_six n h)
early_never rs tail n (of_record r rest e q) h =
    ⊎_elim (λ (l : n ≡ 7). no_record_fault rs r 7 refl (q ∙ l)) (λ (l : n ≡ 8). no_record_fault rs r 8 refl (q ∙ l)) h
early_never rs tail n (of_plan rest e q) h = omega (arith, over_six n h)

-- the checks on the whole plan give 7, 8 or nothing
whole_ends : (rs : List Record) (at : ℕ) → Ended (finish (eqb (end_fault rs) 0) (end_fault rs) rs at)
unfolding end_fault
whole_ends rs at = go (loops rs) (self_depends rs)
  where
    fault : Bool → Bool → ℕ
    fault l s = first_fault ((not l, 7) ∷ (not s, 8) ∷ [])

    go : (l s : Bool) → Ended (finish (eqb (fault l s) 0) (fault l s) rs at)
    go true s = inl refl
    go false true = inr refl
    go false false = tt

pub end_reached : (bytes : List ℕ) → Ended (read bytes) ↔ ((rs : List Record) × (used : ℕ) × (scanned bytes ≡ accepted rs used))
unfolding read scanned
end_reached bytes = (from (scanned bytes) refl, into)
  where
    last : read bytes ≡ end_checked end_fault (scanned bytes)
    last = checks_last six end_fault bytes

    from : (x : Reading) → scanned bytes ≡ x → Ended (read bytes) → (rs : List Record) × (used : ℕ) × (scanned bytes ≡ accepted rs used)
    from (accepted rs used) e ended = (rs, used, e)
    from (refused_at n offset) e ended =
        let w = (read_refuses six unchecked bytes n offset).0 e in
        absurd (early_never w.records w.tail n ((fault_is six unchecked w.records w.tail n).0 w.fault)
        (subst Ended (last ∙ ap (end_checked end_fault) e) ended))

    into : (rs : List Record) × (used : ℕ) × (scanned bytes ≡ accepted rs used) → Ended (read bytes)
    into w = subst Ended (sym (last ∙ ap (end_checked end_fault) w.2)) (whole_ends w.0 (w.1 - 1))
