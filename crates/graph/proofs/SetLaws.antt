-- What is in a set of nodes, as statements: a union, a difference, a set without its least node. From the laws of `words`. Assumes nothing.
use Prim.Native.Nat.{ℕ, ◌^◌, ◌<◌, ◌≤◌}
use native.Mathlib.Nat.{lt_of_le_of_lt}
use mathlib.Core.Path.{◌≡◌, refl, sym, subst}
use mathlib.Core.Logic.{◌⊎◌, inl, inr, ⊎_elim}
use mathlib.Core.Bool.{Bool, true, false, not}
use lib.Bits.{bit_or, and_le_l}
use lib.Dec.{T, eqb}
use mir.Facts.{and_yes, yes_and}
use borrow.Author.Tests.{eqb-true}
use Rattle.ids.specs.Limits.{nodes}
use Rattle.lists.proofs.CountLaws.{lt_or_ge}
use Rattle.model.proofs.GraphLaws.{yes, or_cases, or_by_left, or_by_right}
use Rattle.words.specs.Words.{member, least, without_least, difference}
use Rattle.words.proofs.WordLaws.{member-past, member_or, member-difference}
use Rattle.words.proofs.LeastLaws.{member-without}

-- what is in a word is a node
pub member_node : (word n : ℕ) → word < 2 ^ nodes → T (member word n) → n < nodes
member_node word n small h =
    ⊎_elim (λ (p : n < nodes). p) (λ (p : nodes ≤ n). absurd (subst T (member-past nodes word n small p) h)) (lt_or_ge n nodes)

-- a union
pub in_left : (a b n : ℕ) → T (member a n) → T (member (bit_or a b) n)
in_left a b n h = subst T (sym (member_or a b n)) (or_by_left (member a n) (member b n) h)

pub in_right : (a b n : ℕ) → T (member b n) → T (member (bit_or a b) n)
in_right a b n h = subst T (sym (member_or a b n)) (or_by_right (member a n) (member b n) h)

pub in_either : (a b n : ℕ) → T (member (bit_or a b) n) → T (member a n) ⊎ T (member b n)
in_either a b n h = or_cases (member a n) (member b n) (subst T (member_or a b n) h)

-- a difference
module _ (word other : ℕ) (small : word < 2 ^ nodes) (other-small : other < 2 ^ nodes) where
  pub difference_small : difference word other < 2 ^ nodes
  unfolding difference
  difference_small = lt_of_le_of_lt (and_le_l word _) small

  pub in_difference : (n : ℕ) → T (member (difference word other) n) → T (member word n) × T (not (member other n))
  in_difference n h =
      let inside = member_node (difference word other) n difference_small h in
      and_yes (member word n) (not (member other n)) (subst T (member-difference word other n other-small inside) h)

  -- what is in the first is in the other or in the difference
  pub other_or_difference : (n : ℕ) → T (member word n) → T (member other n) ⊎ T (member (difference word other) n)
  other_or_difference n h = go (member other n) refl
    where
      go : (t : Bool) → member other n ≡ t → T (member other n) ⊎ T (member (difference word other) n)
      go true e = inl (yes e)
      go false e =
          inr
          (subst T (sym (member-difference word other n other-small (member_node word n small h)))
          (yes_and (member word n) (not (member other n)) h (subst (λ (b : Bool). T (not b)) (sym e) tt)))

-- a set without its least node
module _ (word : ℕ) (small : word < 2 ^ nodes) where
  pub without_in : (n : ℕ) → T (member (without_least word) n) → T (member word n)
  without_in n h = (and_yes (member word n) (not (eqb (least word) n)) (subst T (member-without word n small) h)).0

  pub least_or_without : (n : ℕ) → T (member word n) → (least word ≡ n) ⊎ T (member (without_least word) n)
  least_or_without n h = go (eqb (least word) n) refl
    where
      go : (t : Bool) → eqb (least word) n ≡ t → (least word ≡ n) ⊎ T (member (without_least word) n)
      go true e = inl (eqb-true (least word) n e)
      go false e =
          inr
          (subst T (sym (member-without word n small))
          (yes_and (member word n) (not (eqb (least word) n)) h (subst (λ (b : Bool). T (not b)) (sym e) tt)))
