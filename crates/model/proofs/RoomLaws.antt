-- The room at a level, counted by admitting calls one after another, is the smallest T - j - A[j] over j from 0 to the level: each admission takes one from every
-- one of them, and the first that is 0 ends it. By induction over the admissions. Assumes nothing.
use Prim.Native.Nat.{ℕ, zero, suc, ◌-◌, ◌≤◌, ◌<◌, min}
use native.Mathlib.Omega.{arith}
use mathlib.Core.Path.{◌≡◌, refl}
use mathlib.Core.Logic.{◌↔◌}
use mathlib.Core.Bool.{Bool, true, false, cond}
use mathlib.Core.List.{List}
use lib.ListN.{length}
use lib.Dec.{ltb}
use Rattle.lists.specs.Count.{smallest}
use Rattle.lists.proofs.CountLaws.{and_right, never_both, smallest_le, smallest-less, smallest_above}
use Rattle.model.specs.Site.{lawful, raised, may_admit, blocking, spare, admitted, room}
use Rattle.model.proofs.SiteLaws.{A-raised, lawful_at, full_is, raised-length}
use Rattle.model.proofs.BlockingLaws.{blocked_by}

-- "the smallest T - j - A[j] over j from 0 to k"
abbrev pub least : ℕ → List ℕ → ℕ → ℕ
least T a k = smallest k (spare T a)

module _ (T k : ℕ) (below : k < T) where
  -- an admission leaves a lawful site, with one less of each
  still_lawful : (a : List ℕ) → may_admit T a k ≡ true → lawful T (raised a k) ≡ true
  unfolding may_admit
  still_lawful a e = and_right (ltb k T) (lawful T (raised a k)) e

  one_less : (a : List ℕ) → T ≤ length a → least T (raised a k) k ≡ least T a k - 1
  unfolding spare
  one_less a long = smallest-less k (spare T a) (spare T (raised a k)) (λ j h. omega (arith, A-raised a k j (omega arith) h))

  some_left : (a : List ℕ) → T ≤ length a → may_admit T a k ≡ true → 1 ≤ least T a k
  unfolding spare
  some_left a long e =
      smallest_above k (spare T a) 1
      (λ j h. omega (arith, A-raised a k j (omega arith) h, lawful_at T (raised a k) (still_lawful a e) j (omega arith)))

  none_left : (a : List ℕ) → T ≤ length a → lawful T a ≡ true → may_admit T a k ≡ false → least T a k ≡ 0
  unfolding spare
  none_left a long law e =
      let way = blocked_by T a k long law below e in
      let j = blocking T a k in
      omega (arith, smallest_le k (spare T a) j way.at_or_below, full_is T a j (omega (arith, way.at_or_below)) way.is_full)

  pub admitted-is : (tries : ℕ) (a : List ℕ) → T ≤ length a → lawful T a ≡ true → admitted tries T a k ≡ min tries (least T a k)
  unfolding admitted
  admitted-is zero a long law = omega arith
  admitted-is (suc tries) a long law =
      go (may_admit T a k) refl
      (λ e. admitted-is tries (raised a k) (omega (arith, raised-length a k)) (still_lawful a e))
    where
      go : (b : Bool) → may_admit T a k ≡ b → (may_admit T a k ≡ true → admitted tries T (raised a k) k ≡ min tries (least T (raised a k) k))
          → cond b (suc (admitted tries T (raised a k) k)) 0 ≡ min (suc tries) (least T a k)
      go true e next = omega (arith, next e, one_less a long, some_left a long e)
      go false e next = omega (arith, none_left a long law e)

  pub room-is : (a : List ℕ) → T ≤ length a → lawful T a ≡ true → room T a k ≡ least T a k
  unfolding room spare
  room-is a long law = omega (arith, admitted-is T a long law, smallest_le k (spare T a) 0 (omega arith))

  -- room above 0 exactly where the level may be admitted
  pub room-admits : (a : List ℕ) → (0 < room T a k) ↔ (may_admit T a k ≡ true)
  unfolding room admitted
  room-admits a = go T below
    where
      first : (t : ℕ) (b : Bool) → (0 < cond b (suc (admitted t T (raised a k) k)) 0) ↔ (b ≡ true)
      first t true = (λ h. refl, λ e. omega arith)
      first t false = (λ h. absurd (omega arith), λ e. absurd (never_both e refl))

      go : (t : ℕ) → k < t → (0 < admitted t T a k) ↔ (may_admit T a k ≡ true)
      go zero h = absurd (omega arith)
      go (suc t) h = first t (may_admit T a k)
