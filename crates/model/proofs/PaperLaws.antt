-- The paper's Lemmas 1 and 2 and Corollaries 1 and 2, that its φ over the levels in use is document 01's lawful and its guard φ' 01's admission,
-- and that the highest admissible level is the largest that may be admitted: from the laws of A and of the rule live_p. Assumes nothing.
use Prim.Native.Nat.{ℕ, zero, suc, ◌+◌, ◌-◌, ◌≤◌, ◌<◌}
use native.Mathlib.Omega.{arith}
use mathlib.Core.Path.{◌≡◌, refl, sym, ap, subst, ◌∙◌}
use mathlib.Core.Logic.{⊎_elim, ◌↔◌}
use mathlib.Core.Bool.{true, false}
use mathlib.Core.List.{List}
use lib.ListN.{length, get_or}
use lib.Dec.{ltb, eqb}
use lib.Seq.{get_or-set_other}
use borrow.Author.Tests.{lt-ltb, le-ltb, ltb-true, eqb-true, eqb-false}
use Rattle.lists.proofs.CountLaws.{lt_or_ge, true_or_false, and_left, and_right, and_both, same_test, never_both, first_le}
use Rattle.model.specs.Site.{A, lawful, raised, may_admit, full, limit}
use Rattle.model.specs.Paper.{φ, φ', InUse}
use Rattle.model.specs.Rule.{live_p}
use Rattle.model.proofs.SiteLaws.{A-step, A_end, A-raised, A_kept, A-one, lawful_at, lawful-all}
use Rattle.model.proofs.RuleLaws.{B, live_p-sound, over_limit, under_limit, free_lawful, admits_below}

-- one call more raises no sum by more than one
raised_most : (a : List ℕ) (i k : ℕ) → i < length a → A (raised a i) k ≤ suc (A a k)
raised_most a i k long =
    ⊎_elim (λ (p : i < k). omega (arith, A_kept a i k p)) (λ (p : k ≤ i). omega (arith, A-raised a i k long p)) (lt_or_ge i k)

-- Lemma 1: "If φ holds and a clause φ'ᵢ[j] does not hold, then there is at least one active process with annotation j"
pub lemma_1 : (T : ℕ) (a : List ℕ) (i j : ℕ) → i < length a → j < T → lawful T a ≡ true → A a T ≡ 0
    → (A (raised a i) j ≤ T - j → ⊥) → 1 ≤ get_or a j 0
lemma_1 T a i j long below law within fails =
    let r = raised_most a i j long in
    let h : T - j < A (raised a i) j = ⊎_elim (λ p. p) (λ p. absurd (fails p)) (lt_or_ge (T - j) (A (raised a i) j)) in
    omega (arith, A-step a j, above)
  where
    above : A a (suc j) < T - j
    above =
        ⊎_elim
        (λ (p : suc j < T). omega (arith, lawful_at T a law (suc j) p))
        (λ (p : T ≤ suc j). let e : suc j ≡ T = omega arith in omega (arith, ap (A a) e, within))
        (lt_or_ge (suc j) T)

-- Corollary 1: "there is some process with annotation at most i that is active"
pub corollary_1 : (T : ℕ) (a : List ℕ) (i : ℕ) → T ≤ length a → i < T → lawful T a ≡ true → A a T ≡ 0
    → lawful T (raised a i) ≡ false → (j : ℕ) × (j ≤ i) × (1 ≤ get_or a j 0)
corollary_1 T a i long below law within fails =
    ⊎_elim
    (λ (p : i < limit T a). absurd (never_both (free_lawful T a i below (omega arith) law (under_limit T a i below p law)) fails))
    (λ (p : limit T a ≤ i). B live_p live_p-sound T a i below law within (over_limit T a i below p))
    (lt_or_ge i (limit T a))

-- Lemma 2: "If k ≥ i then φ'ₖ implies φ'ᵢ"
pub lemma_2 : (T : ℕ) (a : List ℕ) (i k : ℕ) → k < length a → i ≤ k → lawful T (raised a k) ≡ true → lawful T (raised a i) ≡ true
lemma_2 T a i k long h law = lawful-all T (raised a i) (λ j l. omega (arith, lawful_at T (raised a k) law j l, fewer j))
  where
    fewer : (j : ℕ) → A (raised a i) j ≤ A (raised a k) j
    fewer j =
        ⊎_elim
        (λ (p : k < j). omega (arith, A_kept a k j p, A_kept a i j (omega arith)))
        (λ (p : j ≤ k). omega (arith, A-raised a k j long p, raised_most a i j (omega arith)))
        (lt_or_ge k j)

-- Corollary 2: "there exists 0 ≤ i ≤ T such that all processes with annotation lower than i are enabled, and all processes with annotation
-- at least i are disabled"
pub corollary_2 : (T : ℕ) (a : List ℕ) → T ≤ length a → lawful T a ≡ true
    → (m : ℕ) × (m ≤ T) × ((i : ℕ) → i < m → may_admit T a i ≡ true) × ((i : ℕ) → m ≤ i → may_admit T a i ≡ false)
unfolding limit
corollary_2 T a long law = (
  limit T a,
  first_le T (full T a),
  (λ i h. admits_below T a i long law ∙ lt-ltb i (limit T a) h),
  λ i h. admits_below T a i long law ∙ le-ltb i (limit T a) h,
)

-- The highest admissible level, where there is one, may be admitted, and no higher level may
pub highest_largest : (T : ℕ) (a : List ℕ) (level : ℕ) → T ≤ length a → lawful T a ≡ true → limit T a ≡ suc level
    → (may_admit T a level ≡ true) × ((i : ℕ) → may_admit T a i ≡ true → i ≤ level)
highest_largest T a level long law e = (
  admits_below T a level long law ∙ lt-ltb level (limit T a) (omega arith),
  λ i h. let q = ltb-true i (limit T a) (sym (admits_below T a i long law) ∙ h) in omega arith,
)

-- and where it is "none", no level may be admitted
pub highest_none : (T : ℕ) (a : List ℕ) → T ≤ length a → lawful T a ≡ true → limit T a ≡ 0 → (i : ℕ) → may_admit T a i ≡ false
highest_none T a long law e i = admits_below T a i long law ∙ le-ltb i (limit T a) (omega arith)

-- equal counts at every level have equal sums, however the lists are written
same_sums : (a b : List ℕ) → ((k : ℕ) → get_or a k 0 ≡ get_or b k 0) → (n k : ℕ) → length a ≤ k + n → length b ≤ k + n → A a k ≡ A b k
same_sums a b same zero k end-a end-b = A_end a k (omega arith) ∙ sym (A_end b k (omega arith))
same_sums a b same (suc n) k end-a end-b =
    omega (arith, A-step a k, A-step b k, same k, same_sums a b same n (suc k) (omega arith) (omega arith))

-- "Admission depends on T, i and that site's active counts and on nothing else"
pub admission_alone : (T : ℕ) (a b : List ℕ) (i : ℕ) → T ≤ length a → T ≤ length b → ((k : ℕ) → get_or a k 0 ≡ get_or b k 0)
    → may_admit T a i ≡ may_admit T b i
unfolding may_admit
admission_alone T a b i long-a long-b same =
    same_test (may_admit T a i) (may_admit T b i) (carried a b long-a long-b same) (carried b a long-b long-a (λ k. sym (same k)))
  where
    carried : (c d : List ℕ) → T ≤ length c → T ≤ length d → ((k : ℕ) → get_or c k 0 ≡ get_or d k 0) → may_admit T c i ≡ true → may_admit T d i ≡ true
    carried c d long-c long-d equal e =
        let below = ltb-true i T (and_left (ltb i T) (lawful T (raised c i)) e) in
        let law = and_right (ltb i T) (lawful T (raised c i)) e in
        and_both (ltb i T) (lawful T (raised d i)) (lt-ltb i T below)
        (lawful-all T (raised d i) (λ k h.
        let sums = same_sums c d equal (length c + length d) k (omega arith) (omega arith) in
        ⊎_elim
        (λ (p : i < k). omega (arith, lawful_at T (raised c i) law k h, A_kept c i k p, A_kept d i k p, sums))
        (λ (p : k ≤ i). omega (arith, lawful_at T (raised c i) law k h, A-raised c i k (omega arith) p, A-raised d i k (omega arith) p, sums))
        (lt_or_ge i k)))

-- where calls stand at or above k, the lowest of their levels has the same sum
next_active : (a : List ℕ) (n k : ℕ) → length a ≤ k + n → 1 ≤ A a k → (j : ℕ) × (k ≤ j) × (1 ≤ get_or a j 0) × (A a j ≡ A a k)
next_active a zero k end some = absurd (omega (arith, A_end a k (omega arith)))
next_active a (suc n) k end some =
    ⊎_elim
    (λ (p : 0 < get_or a k 0). (k, omega arith, p, refl))
    (λ (p : get_or a k 0 ≤ 0).
    let s = A-step a k in
    let w = next_active a n (suc k) (omega arith) (omega arith) in
    (w.0, omega (arith, w.1), w.2, omega (arith, w.3)))
    (lt_or_ge 0 (get_or a k 0))

-- 01's lawful, over every level below T, is the paper's φ over the levels in use
pub lawful-φ : (used : ℕ → Type 0) (T : ℕ) (a : List ℕ) → InUse used T a → (lawful T a ≡ true) ↔ φ used T a
lawful-φ used T a u = (λ law k h. omega (arith, lawful_at T a law k (u.below k h)), λ p. lawful-all T a (at p))
  where
    at : φ used T a → (k : ℕ) → k < T → A a k + k ≤ T
    at p k h =
        ⊎_elim
        (λ (q : 0 < A a k).
        let w = next_active a (length a) k (omega arith) q in
        let l = u.active w.0 w.2 in
        omega (arith, p w.0 l, u.below w.0 l, w.1, w.3))
        (λ (q : A a k ≤ 0). omega arith)
        (lt_or_ge 0 (A a k))

-- the levels in use with one call more of one of them
raised_in_use : (used : ℕ → Type 0) (T : ℕ) (a : List ℕ) (i : ℕ) → InUse used T a → used i → InUse used T (raised a i)
unfolding raised
raised_in_use used T a i u asked =
    record {
      below = u.below;
      active = λ k h.
          ⊎_elim
          (λ (e : eqb i k ≡ true). subst used (eqb-true i k e) asked)
          (λ (f : eqb i k ≡ false). u.active k (omega (arith, get_or-set_other a i k (suc (get_or a i 0)) 0 (λ e. eqb-false i k f (sym e)))))
          (true_or_false (eqb i k));
    }

-- 01's "the site stays lawful with a[i] one larger", of a level in use, is the paper's φ'ᵢ over the levels in use: the guard of live_p
pub admit_φ' : (used : ℕ → Type 0) (T : ℕ) (a : List ℕ) (i : ℕ) → InUse used T a → used i → T ≤ length a
    → (may_admit T a i ≡ true) ↔ φ' used T a i
unfolding may_admit
admit_φ' used T a i u asked long = (
  λ e k h. omega (arith, both.0 (and_right (ltb i T) (lawful T (raised a i)) e) k h, A-one a i k within),
  λ p.
      and_both (ltb i T) (lawful T (raised a i))
      (lt-ltb i T (u.below i asked))
      (both.1 (λ k h. omega (arith, p k h, A-one a i k within))),
)
  where
    within : i < length a
    within = omega (arith, u.below i asked)

    both : (lawful T (raised a i) ≡ true) ↔ φ used T (raised a i)
    both = lawful-φ used T (raised a i) (raised_in_use used T a i u asked)
