-- The walk over the arrays at a height h that the code counts down: what its steps do, where its places lie, and how many tree nodes it stands
-- on. By the cases of the height. Assumes nothing.
use Prim.Native.Nat.{ℕ, zero, suc, ◌+◌, ◌-◌, ◌*◌, ◌^◌, ◌≤◌, ◌<◌}
use native.Mathlib.Nat.{mul-le-mul_left}
use native.Mathlib.Numerals.{add-one}
use native.Mathlib.Omega.{arith}
use lib.Pow.{pow_pos}
use lib.Dec.{eqb}
use lib.ListN.{get_or}
use borrow.Author.Tests.{eq-eqb, ne_eqb}
use mathlib.Core.Path.{◌≡◌, refl, ap, ◌∙◌}
use mathlib.Core.Bool.{Bool, true, false, cond}
use mathlib.Core.List.{List}
use Rattle.model.specs.Tree.{onward}
use Rattle.model.specs.declared.Walked.{Walked}
use Rattle.ids.specs.Limits.{most_threads}
use Rattle.tree.specs.Places.{places, no_slack, walk_in}

-- Places

-- a place at the leaves
pub leaf_place : (h n : ℕ) → h ≡ 0 → most_threads ≤ n * 2 ^ h → (n + 1) * 2 ^ h ≤ places → (most_threads ≤ n) × (n < places)
leaf_place h n e low high =
    let l : most_threads ≤ n * 2 ^ 0 = rw e at low in
    let u : (n + 1) * 2 ^ 0 ≤ places = rw e at high in
    (omega arith, omega arith)

-- one height lower
pub pow_down : (h : ℕ) → (h ≡ 0 → ⊥) → 2 ^ h ≡ 2 * 2 ^ (h - 1)
pow_down zero f = absurd (f refl)
pow_down (suc h) f = let e : suc h - 1 ≡ h = omega arith in omega (arith, ap (λ (k : ℕ). 2 ^ k) e)

-- both halves of a place above the leaves are places one height lower
pub record Halves (h n : ℕ) : Type 0 where
  pub inside : 2 * n + 1 < places
  pub left_low : most_threads ≤ 2 * n * 2 ^ (h - 1)
  pub left_high : (2 * n + 1) * 2 ^ (h - 1) ≤ places
  pub right_low : most_threads ≤ (2 * n + 1) * 2 ^ (h - 1)
  pub right_high : (2 * n + 1 + 1) * 2 ^ (h - 1) ≤ places

pub halves : (h n : ℕ) → (h ≡ 0 → ⊥) → most_threads ≤ n * 2 ^ h → (n + 1) * 2 ^ h ≤ places → Halves h n
halves h n f low high =
    let p = 2 ^ (h - 1) in
    let l : most_threads ≤ n * (2 * p) = rw (pow_down h f) at low in
    let u : (n + 1) * (2 * p) ≤ places = rw (pow_down h f) at high in
    let least : (n + 1) * 1 ≤ (n + 1) * p = mul-le-mul_left (n + 1) (pow_pos (h - 1)) in
    record { inside = omega arith; left_low = omega arith; left_high = omega arith; right_low = omega arith; right_high = omega arith }

-- Steps

-- the result of the walk below, one tree node further up
pub one_more : (r w : Walked) → r ≡ w → record { leaf = r.leaf; stood = r.stood + 1 } ≡ onward w
one_more r w e = ap (λ (s : ℕ). record { leaf = r.leaf; stood = s }) (add-one r.stood) ∙ ap onward e

module _ (sizes slacks : List ℕ) (n carried : ℕ) where
  abbrev with_right : ℕ
  with_right = get_or sizes (2 * n + 1) 0 + carried

  pub step_left : (h : ℕ) → (h ≡ 0 → ⊥) → get_or slacks (2 * n) 0 ≡ no_slack + with_right
      → onward (walk_in sizes slacks (h - 1) (2 * n) with_right) ≡ walk_in sizes slacks h n carried
  step_left zero f e = absurd (f refl)
  step_left (suc h) f e =
      let d : suc h - 1 ≡ h = omega arith in
      rw (d, eq-eqb (get_or slacks (2 * n) 0) (no_slack + with_right) e)

  pub step_right : (h : ℕ) → (h ≡ 0 → ⊥) → (get_or slacks (2 * n) 0 ≡ no_slack + with_right → ⊥)
      → onward (walk_in sizes slacks (h - 1) (2 * n + 1) carried) ≡ walk_in sizes slacks h n carried
  step_right zero f e = absurd (f refl)
  step_right (suc h) f e =
      let d : suc h - 1 ≡ h = omega arith in
      rw (d, ne_eqb (get_or slacks (2 * n) 0) (no_slack + with_right) e)

-- one tree node for each height
pub stood_on : (sizes slacks : List ℕ) (h n carried : ℕ) → (walk_in sizes slacks h n carried).stood ≡ suc h
stood_on sizes slacks zero n carried = refl
stood_on sizes slacks (suc h) n carried =
    go (eqb (get_or slacks (2 * n) 0) (no_slack + (get_or sizes (2 * n + 1) 0 + carried))) _ _
    (stood_on sizes slacks h (2 * n) (get_or sizes (2 * n + 1) 0 + carried))
    (stood_on sizes slacks h (2 * n + 1) carried)
  where
    go : (b : Bool) (v w : Walked) → v.stood ≡ suc h → w.stood ≡ suc h → (cond b (onward v) (onward w)).stood ≡ suc (suc h)
    go true v w p q = ap suc p
    go false v w p q = ap suc q
