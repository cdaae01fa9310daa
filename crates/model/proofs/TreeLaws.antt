-- The tree of counts, shown once over the height: a size is a difference of two sums A, a slack is the tightest of its levels, and so the
-- walk finds the lowest full level and stands on one tree node for each height. Assumes nothing.
use Prim.Native.Nat.{ℕ, zero, suc, ◌+◌, ◌-◌, ◌^◌, ◌≤◌, ◌<◌, min, zero-le}
use native.Mathlib.Nat.{le_refl}
use native.Mathlib.Numerals.{add-one}
use lib.Pow.{pow_pos}
use native.Mathlib.Omega.{arith}
use mathlib.Core.Path.{◌≡◌, refl, sym, ap, subst, ◌∙◌}
use mathlib.Core.Logic.{⊎_elim}
use mathlib.Core.Bool.{Bool, true, false, cond}
use mathlib.Core.List.{List}
use lib.ListN.{length, get_or}
use lib.Dec.{ltb}
use borrow.Author.Tests.{lt-ltb, le-ltb, eq-eqb, eqb-true}
use Rattle.ids.specs.Limits.{most_threads}
use Rattle.lists.proofs.CountLaws.{lt_or_ge, never_both, first_is, first_none, not_true_false}
use Rattle.model.specs.Site.{A, lawful, full, limit}
use Rattle.model.specs.declared.Walked.{Walked}
use Rattle.model.specs.Tree.{size, slack, no_limit, up_to, is, walk, onward, from_root, root_height}
use Rattle.model.proofs.SiteLaws.{A-step, A_end, A_down, lawful_at, full_is, is_full}

-- a tree node's size is what its levels add to A
pub size_is : (a : List ℕ) (h k : ℕ) → A a k ≡ size a h k + A a (k + 2 ^ h)
unfolding size
size_is a zero k = A-step a k ∙ ap (λ (j : ℕ). get_or a k 0 + A a j) (sym (add-one k))
size_is a (suc h) k =
    let e : k + 2 ^ h + 2 ^ h ≡ k + 2 ^ suc h = omega arith in
    omega (arith, size_is a h k, size_is a h (k + 2 ^ h), ap (A a) e)

-- a tree node at or above T has no limit
pub slack_none : (T : ℕ) (a : List ℕ) (h k : ℕ) → T ≤ k → slack T a h k ≡ no_limit
unfolding slack
slack_none T a zero k p = simp (le-ltb k T p)
slack_none T a (suc h) k p = simp (slack_none T a h k p, slack_none T a h (k + 2 ^ h) (omega arith))

-- s is the tightest of the levels below T that the tree node covers, before the calls to its right are taken off
record Tight (T : ℕ) (a : List ℕ) (h k s : ℕ) : Type 0 where
  bound : (j : ℕ) → k ≤ j → j < k + 2 ^ h → j < T → s + j + A a j ≤ T + A a (k + 2 ^ h)
  met : (j : ℕ) × (k ≤ j) × (j < k + 2 ^ h) × (j < T) × (s + j + A a j ≡ T + A a (k + 2 ^ h))

module _ (T : ℕ) (a : List ℕ) (law : lawful T a ≡ true) where
  -- the calls to the right of a tree node are no more than its slack
  enough : (h k s : ℕ) → Tight T a h k s → A a (k + 2 ^ h) ≤ s
  enough h k s t = omega (arith, t.met.4, lawful_at T a law t.met.0 t.met.3)

  -- a leaf
  leaf_tight : (k : ℕ) → k < T → Tight T a zero k (T - k - get_or a k 0)
  leaf_tight k p =
      record {
        bound = λ j l u below. let e : j ≡ k = omega arith in omega (arith, ap (A a) e, one);
        met = (k, omega arith, omega arith, p, one);
      }
    where
      one : T - k - get_or a k 0 + k + A a k ≡ T + A a (k + 1)
      one = omega (arith, lawful_at T a law k p, A-step a k, ap (A a) (add-one k))

  module _ (h k : ℕ) where
    -- the calls to the right of the left half: those in the right half, and those to the right of both
    split : A a (k + 2 ^ h) ≡ size a h (k + 2 ^ h) + A a (k + 2 ^ suc h)
    split =
        let e : k + 2 ^ h + 2 ^ h ≡ k + 2 ^ suc h = omega arith in
        omega (arith, size_is a h (k + 2 ^ h), ap (A a) e)

    -- a pair whose right half has no limit
    left_tight : (s : ℕ) → T ≤ k + 2 ^ h → Tight T a h k s → Tight T a (suc h) k (s - size a h (k + 2 ^ h))
    left_tight s p t =
        let g = enough h k s t in
        record {
          bound = λ j l u below. omega (arith, t.bound j l (omega arith) below, split, g);
          met = (t.met.0, t.met.1, omega (arith, t.met.2), t.met.3, omega (arith, t.met.4, split, g));
        }

    -- a pair with a limit in both halves
    pair_tight : (s r : ℕ) → Tight T a h k s → Tight T a h (k + 2 ^ h) r → Tight T a (suc h) k (min r (s - size a h (k + 2 ^ h)))
    pair_tight s r t w =
        record {
          bound = λ j l u below.
              ⊎_elim
              (λ (p : j < k + 2 ^ h). omega (arith, t.bound j l p below, split, g))
              (λ (p : k + 2 ^ h ≤ j). omega (arith, w.bound j p (omega arith) below, ends))
              (lt_or_ge j (k + 2 ^ h));
          met =
              ⊎_elim
              (λ (p : r < s - size a h (k + 2 ^ h)).
              (w.met.0, omega (arith, w.met.1), omega (arith, w.met.2), w.met.3, omega (arith, w.met.4, ends)))
              (λ (p : s - size a h (k + 2 ^ h) ≤ r).
              (t.met.0, t.met.1, omega (arith, t.met.2), t.met.3, omega (arith, t.met.4, split, g)))
              (lt_or_ge r (s - size a h (k + 2 ^ h)));
        }
      where
        g : A a (k + 2 ^ h) ≤ s
        g = enough h k s t

        ends : A a (k + 2 ^ h + 2 ^ h) ≡ A a (k + 2 ^ suc h)
        ends = let e : k + 2 ^ h + 2 ^ h ≡ k + 2 ^ suc h = omega arith in ap (A a) e

  -- the slack of a tree node below T
  slack_tight : (h k : ℕ) → k < T → (s : ℕ) × (slack T a h k ≡ up_to s) × Tight T a h k s
  unfolding slack
  slack_tight zero k p = (T - k - get_or a k 0, simp (lt-ltb k T p), leaf_tight k p)
  slack_tight (suc h) k p =
      let t = slack_tight h k p in
      ⊎_elim
      (λ (q : k + 2 ^ h < T).
      let w = slack_tight h (k + 2 ^ h) q in
      (min w.0 (t.0 - size a h (k + 2 ^ h)), simp (t.1, w.1), pair_tight h k t.0 w.0 t.2 w.2))
      (λ (q : T ≤ k + 2 ^ h).
      (t.0 - size a h (k + 2 ^ h), simp (t.1, slack_none T a h (k + 2 ^ h) q), left_tight h k t.0 q t.2))
      (lt_or_ge (k + 2 ^ h) T)

  -- at a lawful site no difference of the tree or of the walk would fall below 0: what is taken off a slack is at most the calls to the right
  pub exact : (h k s : ℕ) → slack T a h k ≡ up_to s → A a (k + 2 ^ h) ≤ s
  exact h k s e =
      ⊎_elim
      (λ (p : k < T). let t = slack_tight h k p in let q : t.0 ≡ s = cc in omega (arith, enough h k t.0 t.2))
      (λ (p : T ≤ k). let n = slack_none T a h k p in let z : ◌≡◌ {A = ℕ} 0 1 = cc in absurd (omega arith))
      (lt_or_ge k T)

  -- a tree node below T has a limit
  pub limited : (h k : ℕ) → k < T → (s : ℕ) × (slack T a h k ≡ up_to s)
  limited h k p = let t = slack_tight h k p in (t.0, t.1)

  -- and no slack is above T
  pub slack_most : (h k s : ℕ) → slack T a h k ≡ up_to s → s ≤ T
  slack_most h k s e =
      ⊎_elim
      (λ (p : k < T).
      let t = slack_tight h k p in
      let q : t.0 ≡ s = cc in
      let some = pow_pos h in
      omega (arith, t.2.bound k (le_refl k) (omega arith) p, A_down a k (k + 2 ^ h) (omega arith)))
      (λ (p : T ≤ k). let n = slack_none T a h k p in let z : ◌≡◌ {A = ℕ} 0 1 = cc in absurd (omega arith))
      (lt_or_ge k T)

  -- a tree node's slack is the calls to its right exactly when it covers a full level
  pub covers_full : (h k : ℕ) → is (slack T a h k) (A a (k + 2 ^ h)) ≡ true → (j : ℕ) × (k ≤ j) × (j < k + 2 ^ h) × (j < T) × (full T a j ≡ true)
  covers_full h k e =
      ⊎_elim
      (λ (p : k < T).
      let t = slack_tight h k p in
      let m = t.2.met in
      let q = eqb-true t.0 (A a (k + 2 ^ h)) (rw t.1 at e) in
      (m.0, m.1, m.2, m.3, is_full T a m.0 (omega (arith, m.4))))
      (λ (p : T ≤ k). absurd (never_both e (rw (slack_none T a h k p))))
      (lt_or_ge k T)

  pub full_covered : (h k j : ℕ) → k ≤ j → j < k + 2 ^ h → j < T → full T a j ≡ true → is (slack T a h k) (A a (k + 2 ^ h)) ≡ true
  full_covered h k j l u below f =
      let t = slack_tight h k (omega arith) in
      let m = t.2.met in
      rw t.1
      (eq-eqb t.0 (A a (k + 2 ^ h))
      (omega (arith, t.2.bound j l u below, full_is T a j below f, m.4, lawful_at T a law m.0 m.3)))

  -- a walk that ended well: at the lowest full level of its tree node, having stood on one tree node for each height
  record Found (h k : ℕ) (w : Walked) : Type 0 where
    low : k ≤ w.leaf
    high : w.leaf < T
    filled : full T a w.leaf ≡ true
    lowest : (i : ℕ) → k ≤ i → i < w.leaf → full T a i ≡ false
    nodes : w.stood ≡ suc h

  -- the walk from a tree node that covers a full level, with the calls to its right carried
  walk_finds : (h k j : ℕ) → k ≤ j → j < k + 2 ^ h → j < T → full T a j ≡ true → Found h k (walk T a h k (A a (k + 2 ^ h)))
  unfolding walk
  walk_finds zero k j l u below f =
      let e : j ≡ k = omega arith in
      record {
        low = omega arith;
        high = omega arith;
        filled = subst (λ (i : ℕ). full T a i ≡ true) e f;
        lowest = λ i p q. absurd (omega arith);
        nodes = refl;
      }
  walk_finds (suc h) k j l u below f =
      rw (sym (split h k))
      (go (is (slack T a h k) (A a (k + 2 ^ h))) refl (walk_finds h k) (walk_finds h (k + 2 ^ h)))
    where
      go : (b : Bool) → is (slack T a h k) (A a (k + 2 ^ h)) ≡ b
          → ((i : ℕ) → k ≤ i → i < k + 2 ^ h → i < T → full T a i ≡ true → Found h k (walk T a h k (A a (k + 2 ^ h))))
          → ((i : ℕ) → k + 2 ^ h ≤ i → i < k + 2 ^ h + 2 ^ h → i < T → full T a i ≡ true
          → Found h (k + 2 ^ h) (walk T a h (k + 2 ^ h) (A a (k + 2 ^ h + 2 ^ h))))
          → Found (suc h) k
          (cond b (onward (walk T a h k (A a (k + 2 ^ h)))) (onward (walk T a h (k + 2 ^ h) (A a (k + 2 ^ suc h)))))
      go true e left right =
          let w = covers_full h k e in
          let g = left w.0 w.1 w.2 w.3 w.4 in
          record { low = g.low; high = g.high; filled = g.filled; lowest = g.lowest; nodes = ap suc g.nodes }
      go false e left right =
          let none : (i : ℕ) → k ≤ i → i < k + 2 ^ h → i < T → full T a i ≡ false
          = λ i p q r. not_true_false (full T a i) (λ t. never_both (full_covered h k i p q r t) e) in
          let beyond : k + 2 ^ h ≤ j
          = ⊎_elim (λ (p : j < k + 2 ^ h). absurd (never_both f (none j l p below))) (λ p. p) (lt_or_ge j (k + 2 ^ h)) in
          let g = right j beyond (omega arith) below f in
          let ends : k + 2 ^ h + 2 ^ h ≡ k + 2 ^ suc h = omega arith in
          subst (λ (c : ℕ). Found (suc h) k (onward (walk T a h (k + 2 ^ h) c))) (ap (A a) ends)
          (record {
            low = omega (arith, g.low);
            high = g.high;
            filled = g.filled;
            lowest = λ i p q.
                ⊎_elim
                (λ (r : i < k + 2 ^ h). none i p r (omega (arith, g.high)))
                (λ (r : k + 2 ^ h ≤ i). g.lowest i r q)
                (lt_or_ge i (k + 2 ^ h));
            nodes = ap suc g.nodes;
          })

  -- The walk from the root of a site of 64 levels ends at the lowest full level, or at T where none is full: the limit, by its definition.
  -- It stands on 7 tree nodes where some level is full, and otherwise on 1
  module _ (some : 0 < T) (most : T ≤ most_threads) (long : length a ≡ most_threads) where
    pub from_root-is : ((from_root T a).leaf ≡ limit T a) × ((from_root T a).stood ≡ cond (ltb (limit T a) T) 7 1)
    unfolding from_root limit
    from_root-is = go (is (slack T a root_height 0) 0) refl
      where
        none_right : A a most_threads ≡ 0
        none_right = A_end a most_threads (omega arith)

        go : (b : Bool) → is (slack T a root_height 0) 0 ≡ b
            → let w = cond b (walk T a root_height 0 0) (record { leaf = T; stood = 1 }) in
            (w.leaf ≡ limit T a) × (w.stood ≡ cond (ltb (limit T a) T) 7 1)
        go true e =
            let c = covers_full root_height 0 (subst (λ (n : ℕ). is (slack T a root_height 0) n ≡ true) (sym none_right) e) in
            let f : Found root_height 0 (walk T a root_height 0 0)
            = subst (λ (n : ℕ). Found root_height 0 (walk T a root_height 0 n)) none_right
            (walk_finds root_height 0 c.0 c.1 c.2 c.3 c.4) in
            let found = sym (first_is T (full T a) (walk T a root_height 0 0).leaf f.high f.filled (λ j l. f.lowest j zero-le l)) in
            (found, f.nodes ∙ sym (ap (λ (t : Bool). cond t 7 1) (lt-ltb (limit T a) T (subst (λ (n : ℕ). n < T) found f.high))))
        go false e =
            let none : limit T a ≡ T
            = first_none T (full T a)
            (λ j l. not_true_false (full T a j)
            (λ t. never_both
            (full_covered root_height 0 j zero-le (omega arith) l t)
            (subst (λ (n : ℕ). is (slack T a root_height 0) n ≡ false) (sym none_right) e))) in
            (sym none, sym (ap (λ (t : Bool). cond t 7 1) (le-ltb (limit T a) T (omega arith))))
