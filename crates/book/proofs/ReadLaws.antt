-- Levels read one after another, with the calls at or above each: what is counted; downwards, whether the level is full; upwards, the smallest so far. For a
-- site that is not refused. Assumes nothing.
use Prim.Native.Nat.{ℕ, suc, ◌+◌, ◌-◌, ◌≤◌, ◌<◌, min}
use native.Mathlib.Numerals.{add-one}
use native.Mathlib.Omega.{arith}
use mathlib.Core.Path.{◌≡◌, sym, ap, ap₂, ◌∙◌}
use mathlib.Core.Bool.{Bool, cond}
use mathlib.Core.List.{List}
use lib.Dec.{eqb}
use lib.ListN.{length, get_or}
use borrow.Author.Tests.{eq-eqb, ne_eqb}
use Rattle.ids.specs.Limits.{most_threads}
use Rattle.lists.specs.Count.{last, smallest}
use Rattle.lists.proofs.CountLaws.{last_here, last_lower, smallest_le, smallest-next}
use Rattle.model.specs.Site.{A, full, blocking, spare}
use Rattle.model.proofs.SiteLaws.{Accepted, accepted, A-step, A_down, lawful_at}
use Rattle.book.specs.Asked.{Asked}

module _ {T : ℕ} {a : List ℕ} {asked : ℕ} (ok : Asked T a asked) where
  site : Accepted T a
  site = accepted T a ok.taken

  -- there are no more calls than threads
  pub few : (k : ℕ) → A a k ≤ T
  few k = omega (arith, lawful_at T a site.law 0 site.some, A_down a 0 k (omega arith))

  pub counted_from : (k : ℕ) {n : ℕ} → n ≡ cond (eqb (length a) most_threads) (A a k) 0 → n ≡ A a k
  counted_from k c = c ∙ ap (λ (b : Bool). cond b (A a k) 0) (eq-eqb (length a) most_threads site.long)

  pub level_inside : (k : ℕ) → k ≤ asked → k < length a
  level_inside k h = omega (arith, ok.below, site.most, site.long)

  -- one level further down
  module _ (k active : ℕ) (some : 0 < k) (counted : active ≡ A a k) where
    pub counted_on : active + get_or a (k - 1) 0 ≡ A a (k - 1)
    counted_on = let up : suc (k - 1) ≡ k = omega arith in omega (arith, A-step a (k - 1), ap (A a) up)

    pub more_fits : active + get_or a (k - 1) 0 ≤ T
    more_fits = omega (arith, counted_on, few (k - 1))

  module _ (k active : ℕ) (counted : active ≡ A a k) (come : last (suc asked) (full T a) ≡ last (suc k) (full T a)) where
    pub found-full : active ≡ T - k → k ≡ blocking T a asked
    unfolding blocking full
    found-full e = last_here (suc asked) (full T a) k come (eq-eqb (A a k) (T - k) (sym counted ∙ e))

    pub passed_on : 0 < k → (active ≡ T - k → ⊥) → last (suc asked) (full T a) ≡ last (suc (k - 1)) (full T a)
    unfolding full
    passed_on some apart = last_lower (suc asked) (full T a) k come some (ne_eqb (A a k) (T - k) (λ e. apart (counted ∙ e)))

  -- one level further up
  pub all_fit : (n : ℕ) → n ≡ A a 0 → n ≤ T
  all_fit n counted = omega (arith, few 0)

  pub first-spare : (n : ℕ) → n ≡ A a 0 → T - n ≡ smallest 0 (spare T a)
  unfolding smallest spare
  first-spare n counted = omega arith

  module _ (k active : ℕ) (low : k < asked) (counted : active ≡ A a k) where
    pub one_fits : get_or a k 0 ≤ active
    one_fits = omega (arith, A-step a k)

    pub counted_up : active - get_or a k 0 ≡ A a (k + 1)
    counted_up = omega (arith, A-step a k, ap (A a) (add-one k))

    pub rest_fits : active - get_or a k 0 ≤ T - (k + 1)
    rest_fits = omega (arith, counted_up, lawful_at T a site.law (k + 1) (omega (arith, ok.below)))

    pub smallest_up : (least next : ℕ) → least ≡ smallest k (spare T a) → next ≡ min least (T - (k + 1) - (active - get_or a k 0))
        → next ≡ smallest (k + 1) (spare T a)
    unfolding spare
    smallest_up least next so_far e =
        let same : k ≡ k + 1 - 1 = omega arith in
        e
        ∙ ap₂ (λ (m n : ℕ). min m (T - (k + 1) - n)) (so_far ∙ ap (λ (m : ℕ). smallest m (spare T a)) same) counted_up
        ∙ smallest-next (k + 1) (spare T a)

  -- what is told of a level is a byte
  pub spare_small : (k : ℕ) → smallest k (spare T a) ≤ most_threads
  unfolding spare
  spare_small k = omega (arith, smallest_le k (spare T a) 0 (omega arith), site.most)
