-- A list of tests gives a number exactly when its test is the first to fail, and 0 exactly when all pass: so a record has no fault exactly when it
-- passes each of its checks, whatever the tests of its level. Assumes nothing.
use Prim.Native.Nat.{ℕ, suc}
use native.Mathlib.Omega.{arith}
use mathlib.Core.Path.{◌≡◌, refl}
use mathlib.Core.Logic.{◌↔◌}
use mathlib.Core.Bool.{Bool, true, false, not, ◌&&◌, cond}
use mathlib.Core.List.{List, [], ◌∷◌, ◌++◌}
use lib.Dec.{eqb}
use borrow.Author.Tests.{eqb-true, eqb-false, not-true}
use Rattle.lists.proofs.CountLaws.{never_both, and_left, and_right}
use Rattle.model.specs.Plan.{Record, Levels, numbered, follows, in_range, known, room_for, record_fault, first_fault}
use Rattle.model.specs.Faults.{Given}

-- no test has the number n, and n is not 0
abbrev pub absent : ℕ → List (Bool × ℕ) → Bool
absent n [] = not (eqb 0 n)
absent n (t ∷ ts) = not (eqb t.1 n) && absent n ts

-- no test behind the first one with the number n has it again
abbrev pub lone : ℕ → List (Bool × ℕ) → Bool
lone n [] = true
lone n (t ∷ ts) = cond (eqb t.1 n) (absent n ts) (lone n ts)

pub absent_never : (n : ℕ) (ts : List (Bool × ℕ)) → absent n ts ≡ true → first_fault ts ≡ n → ⊥
absent_never n [] a e = eqb-false 0 n (not-true (eqb 0 n) a) e
absent_never n (t ∷ ts) a e = go t.0 e (absent_never n ts (and_right (not (eqb t.1 n)) (absent n ts) a))
  where
    go : (b : Bool) → cond b (first_fault ts) t.1 ≡ n → (first_fault ts ≡ n → ⊥) → ⊥
    go true q never = never q
    go false q never = eqb-false t.1 n (not-true (eqb t.1 n) (and_left (not (eqb t.1 n)) (absent n ts) a)) q

-- the first test that fails decides
pub first_fault-is : (n : ℕ) (ts : List (Bool × ℕ)) → lone n ts ≡ true → (first_fault ts ≡ n) ↔ Given n ts
first_fault-is n [] l = ((λ e. e), (λ e. e))
first_fault-is n (t ∷ ts) l = go t.0 (eqb t.1 n) refl l (first_fault-is n ts)
  where
    go : (b c : Bool) → eqb t.1 n ≡ c → cond c (absent n ts) (lone n ts) ≡ true → (lone n ts ≡ true → (first_fault ts ≡ n) ↔ Given n ts)
        → (cond b (first_fault ts) t.1 ≡ n) ↔ cond c (b ≡ false) ((b ≡ true) × Given n ts)
    go true true q a ih = ((λ e. absurd (absent_never n ts a e)), (λ p. absurd (never_both refl p)))
    go false true q a ih = ((λ e. refl), (λ p. eqb-true t.1 n q))
    go true false q a ih = ((λ e. (refl, (ih a).0 e)), (λ g. (ih a).1 g.1))
    go false false q a ih = ((λ e. absurd (eqb-false t.1 n q e)), (λ g. absurd (never_both g.0 refl)))

-- No fault of a record, whatever the tests of its level

-- a test with a number gives none where it holds and what follows gives none
passed : (b : Bool) (x n : ℕ) → (cond b x (suc n) ≡ 0) ↔ (b ≡ true) × (x ≡ 0)
passed true x n = ((λ e. (refl, e)), (λ h. h.1))
passed false x n = ((λ e. absurd (omega arith)), (λ h. absurd (never_both h.0 refl)))

none_of_both : (ts bs : List (Bool × ℕ)) → numbered ts ≡ true → (first_fault (ts ++ bs) ≡ 0) ↔ (first_fault ts ≡ 0) × (first_fault bs ≡ 0)
none_of_both [] bs n = ((λ e. (refl, e)), (λ h. h.1))
none_of_both (t ∷ ts) bs n = go t.0 (none_of_both ts bs (and_right (not (eqb t.1 0)) (numbered ts) n))
  where
    real : t.1 ≡ 0 → ⊥
    real = eqb-false t.1 0 (not-true (eqb t.1 0) (and_left (not (eqb t.1 0)) (numbered ts) n))

    go : (b : Bool) → (first_fault (ts ++ bs) ≡ 0) ↔ (first_fault ts ≡ 0) × (first_fault bs ≡ 0)
        → (cond b (first_fault (ts ++ bs)) t.1 ≡ 0) ↔ (cond b (first_fault ts) t.1 ≡ 0) × (first_fault bs ≡ 0)
    go true rest = rest
    go false rest = ((λ e. absurd (real e)), (λ h. absurd (real h.0)))

pub record NoFault (levels : Levels) (rs : List Record) (r : Record) : Type 0 where
  pub rises : follows rs r ≡ true
  pub in_limits : in_range r ≡ true
  pub named : known rs r ≡ true
  pub level : first_fault (levels.tests rs r) ≡ 0
  pub room : room_for rs r ≡ true

pub record_sound : (levels : Levels) (rs : List Record) (r : Record) → (record_fault levels rs r ≡ 0) ↔ NoFault levels rs r
unfolding record_fault
record_sound levels rs r = (from, into)
  where
    behind_level : ℕ
    behind_level = first_fault (levels.tests rs r ++ ((room_for rs r, 9) ∷ []))

    both : (behind_level ≡ 0) ↔ (first_fault (levels.tests rs r) ≡ 0) × (◌≡◌ {A = ℕ} (cond (room_for rs r) 0 9) 0)
    both = none_of_both (levels.tests rs r) ((room_for rs r, 9) ∷ []) (levels.all_numbered rs r)

    three : (record_fault levels rs r ≡ 0) ↔ (follows rs r ≡ true) × (cond (in_range r) (cond (known rs r) behind_level 5) 4 ≡ 0)
    three = passed (follows rs r) (cond (in_range r) (cond (known rs r) behind_level 5) 4) 2

    four : (cond (in_range r) (cond (known rs r) behind_level 5) 4 ≡ 0) ↔ (in_range r ≡ true) × (cond (known rs r) behind_level 5 ≡ 0)
    four = passed (in_range r) (cond (known rs r) behind_level 5) 3

    five : (cond (known rs r) behind_level 5 ≡ 0) ↔ (known rs r ≡ true) × (behind_level ≡ 0)
    five = passed (known rs r) behind_level 4

    from : record_fault levels rs r ≡ 0 → NoFault levels rs r
    from e =
        let a = three.0 e in
        let b = four.0 a.1 in
        let c = five.0 b.1 in
        let d = both.0 c.1 in
        record { rises = a.0; in_limits = b.0; named = c.0; level = d.0; room = ((passed (room_for rs r) 0 8).0 d.1).0 }

    into : NoFault levels rs r → record_fault levels rs r ≡ 0
    into h =
        three.1 (h.rises, four.1 (h.in_limits, five.1 (h.named, both.1 (h.level, (passed (room_for rs r) 0 8).1 (h.room, refl)))))
