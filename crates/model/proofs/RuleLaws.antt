-- What the net needs to know of a rule of admission, once for every sound rule: D, S, B, M and X below, from the three facts of a rule and
-- the laws of A. Then live_p is such a rule, and it admits what document 01 says. Assumes nothing.
use Prim.Native.Nat.{ℕ, suc, ◌+◌, ◌-◌, ◌≤◌, ◌<◌}
use native.Mathlib.Nat.{le_refl, add-sub_of_le}
use native.Mathlib.Omega.{arith}
use mathlib.Core.Path.{◌≡◌, refl, sym, ap, subst}
use mathlib.Core.Logic.{⊎_elim}
use mathlib.Core.Bool.{true, ◌&&◌}
use mathlib.Core.List.{List, [], ◌∷◌}
use lib.ListN.{length, get_or}
use lib.Dec.{ltb}
use borrow.Author.Tests.{lt-ltb, ltb-true}
use Rattle.lists.proofs.CountLaws.{lt_or_ge, and_left, and_right, and_both, same_test, never_both, first_le, first_holds, first_before}
use Rattle.model.specs.Site.{A, lawful, raised, put, may_admit, full, limit}
use Rattle.model.specs.Rule.{Rule, live_p, Blocked, Sound, From}
use Rattle.model.proofs.SiteLaws.{A-raised, A_kept, A_down, level_between, lawful_at, lawful-all, full_is, is_full, raised-length}

-- a call put in is counted at its level and at each lower one
pub put-counts : (b : List ℕ) (i : ℕ) (ins : List ℕ) → From i (length b) ins → (k : ℕ) → k ≤ i → A (put b ins) k ≡ A b k + length ins
put-counts b i [] f k h = omega arith
put-counts b i (l ∷ ls) f k h =
    let rest : From i (length (raised b l)) ls = subst (λ (n : ℕ). From i n ls) (sym (raised-length b l)) f.2 in
    omega (arith, put-counts (raised b l) i ls rest k h, A-raised b l k f.1 (omega (arith, f.0)))

-- Every sound rule
module _ (rule : Rule) (sound : Sound rule) where
  -- D: what is blocked at a level is blocked at every higher one
  pub D : (T : ℕ) (a : List ℕ) (i l : ℕ) → i ≤ l → Blocked rule T a i → Blocked rule T a l
  D T a i l h b = let e = sound.rising i b.0 b.1 l b.2 h in (b.0, e.0, e.1, omega (arith, e.2, b.3))

  -- S: a level that is not blocked keeps the site lawful
  pub S : (T : ℕ) (a : List ℕ) (i : ℕ) → i < length a → i < T → lawful T a ≡ true → (Blocked rule T a i → ⊥) → lawful T (raised a i) ≡ true
  S T a i long below law free = lawful-all T (raised a i) (λ k h. ⊎_elim (λ (p : i < k). above k h p) (λ (p : k ≤ i). counted k p) (lt_or_ge i k))
    where
      above : (k : ℕ) → k < T → i < k → A (raised a i) k + k ≤ T
      above k h p = omega (arith, A_kept a i k p, lawful_at T a law k h)

      spare : (m e : ℕ) → rule i m e → A a m + e < T
      spare m e r = ⊎_elim (λ (p : A a m + e < T). p) (λ (p : T ≤ A a m + e). absurd (free (m, e, r, p))) (lt_or_ge (A a m + e) T)

      counted : (k : ℕ) → k ≤ i → A (raised a i) k + k ≤ T
      counted k p =
          let w = sound.watching i k p in
          omega (arith, A-raised a i k long p, A_down a w.0 k w.3, spare w.0 w.1 w.2, w.4)

  -- B: where a level is blocked, a call of that level or a lower one is active
  pub B : (T : ℕ) (a : List ℕ) (i : ℕ) → i < T → lawful T a ≡ true → A a T ≡ 0 → Blocked rule T a i → (j : ℕ) × (j ≤ i) × (1 ≤ get_or a j 0)
  B T a i below law within b =
      let n = sound.near i b.0 b.1 b.2 in
      let k≤ : b.0 ≤ suc i = omega (arith, n.0, n.1) in
      let w = level_between a b.0 (suc i - b.0) (subst (λ (m : ℕ). A a m < A a b.0) (sym (add-sub_of_le k≤)) (fewer n.1)) in
      (w.0, omega (arith, w.2, add-sub_of_le k≤), w.3)
    where
      fewer : b.1 ≤ i → A a (suc i) < A a b.0
      fewer d =
          ⊎_elim
          (λ (p : suc i < T). omega (arith, lawful_at T a law (suc i) p, b.3))
          (λ (p : T ≤ suc i). let e : suc i ≡ T = omega arith in omega (arith, b.3, ap (A a) e, within))
          (lt_or_ge (suc i) T)

  -- M: more calls or fewer threads never unblock
  pub M : (T U : ℕ) (a b : List ℕ) (i : ℕ) → U ≤ T → ((k : ℕ) → k ≤ i → A a k ≤ A b k) → Blocked rule T a i → Blocked rule U b i
  M T U a b i h more w =
      let n = sound.near i w.0 w.1 w.2 in
      (w.0, w.1, w.2, omega (arith, w.3, more w.0 (omega (arith, n.0, n.1))))

  -- X: a blocked level stays blocked from T to U threads when some calls are taken out and others of that level or higher are put in, as long as
  -- the threads that come are no more than the calls put in beyond those taken out
  pub X : (T U : ℕ) (a b : List ℕ) (taken i : ℕ) (ins : List ℕ)
      → ((k : ℕ) → A a k ≤ A b k + taken) → From i (length b) ins → U + taken ≤ T + length ins → Blocked rule T a i → Blocked rule U (put b ins) i
  X T U a b taken i ins out fits enough w =
      let n = sound.near i w.0 w.1 w.2 in
      (w.0, w.1, w.2, omega (arith, w.3, out w.0, put-counts b i ins fits w.0 (omega (arith, n.0, n.1))))

-- live_p
pub live_p-sound : Sound live_p
live_p-sound =
    record {
      near = λ i k d c. (omega (arith, c.1), omega (arith, c.0, c.1));
      rising = λ i k d l c h. (k, (omega (arith, c.0), refl), omega (arith, c.1));
      watching = λ i k h. (k, k, (h, refl), le_refl k, le_refl k);
    }

module _ (T : ℕ) (a : List ℕ) (i : ℕ) (below : i < T) where
  -- below the limit nothing is blocked at a lawful site
  pub under_limit : i < limit T a → lawful T a ≡ true → Blocked live_p T a i → ⊥
  unfolding limit
  under_limit h law b =
      let k<T : b.0 < T = omega (arith, b.2.0) in
      let e : A a b.0 + b.0 ≡ T = omega (arith, b.2.1, b.3, lawful_at T a law b.0 k<T) in
      never_both (is_full T a b.0 e) (first_before T (full T a) b.0 (omega (arith, b.2.0)))

  -- and from the limit on the lowest full level blocks
  pub over_limit : limit T a ≤ i → Blocked live_p T a i
  unfolding limit
  over_limit h =
      let k = first_holds T (full T a) (omega arith) in
      (limit T a, limit T a, (h, refl), omega (arith, full_is T a (limit T a) (omega arith) k))

  -- 01's words: the site stays lawful with one call more exactly when the level is not blocked
  pub lawful_free : i < length a → lawful T (raised a i) ≡ true → Blocked live_p T a i → ⊥
  lawful_free long law b =
      let k<T : b.0 < T = omega (arith, b.2.0) in
      omega (arith, b.2.1, b.3, lawful_at T (raised a i) law b.0 k<T, A-raised a i b.0 long b.2.0)

  pub free_lawful : i < length a → lawful T a ≡ true → (Blocked live_p T a i → ⊥) → lawful T (raised a i) ≡ true
  free_lawful long law free = S live_p live_p-sound T a i long below law free

-- "In every lawful state it is the largest level that may be admitted": the admissible levels are those below the limit
pub admits_below : (T : ℕ) (a : List ℕ) (i : ℕ) → T ≤ length a → lawful T a ≡ true → may_admit T a i ≡ ltb i (limit T a)
unfolding may_admit limit
admits_below T a i long law =
    same_test (may_admit T a i) (ltb i (limit T a)) down up
  where
    down : (ltb i T && lawful T (raised a i)) ≡ true → ltb i (limit T a) ≡ true
    down e =
        let below = ltb-true i T (and_left (ltb i T) (lawful T (raised a i)) e) in
        let free = lawful_free T a i below (omega arith) (and_right (ltb i T) (lawful T (raised a i)) e) in
        ⊎_elim (λ p. lt-ltb i (limit T a) p) (λ p. absurd (free (over_limit T a i below p))) (lt_or_ge i (limit T a))

    up : ltb i (limit T a) ≡ true → (ltb i T && lawful T (raised a i)) ≡ true
    up e =
        let h = ltb-true i (limit T a) e in
        let below : i < T = omega (arith, first_le T (full T a)) in
        and_both (ltb i T) (lawful T (raised a i)) (lt-ltb i T below) (free_lawful T a i below (omega arith) law (under_limit T a i below h law))
