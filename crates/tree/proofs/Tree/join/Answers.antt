-- `Tree::join` meets its contract. The loop's invariant: the places from `first` up to n are made from their halves, which lie at or behind n,
-- so that no store has touched them. Assumes nothing.
use Prim.Native.Nat.{ℕ, ◌+◌, ◌-◌, ◌*◌, min}
use native.Mathlib.Omega.{arith}
use mathlib.Core.Path.{◌≡◌, refl, ap₂, ◌∙◌}
use mathlib.Core.List.{List}
use lib.ListN.{get_or}
use Rattle.lists.proofs.FillLaws.{filled_more}
use Rattle.tree.proofs.Tree.join.Invariants.{Made}
use Rattle.tree.proofs.Tree.join.Goals as goal

-- what the halves of place n held at entry they hold still
record Kept (sizes₀ slacks₀ sizes slacks : List ℕ) (n : ℕ) : Type 0 where
  left_size : get_or sizes (2 * n) 0 ≡ get_or sizes₀ (2 * n) 0
  right_size : get_or sizes (2 * n + 1) 0 ≡ get_or sizes₀ (2 * n + 1) 0
  left_slack : get_or slacks (2 * n) 0 ≡ get_or slacks₀ (2 * n) 0
  right_slack : get_or slacks (2 * n + 1) 0 ≡ get_or slacks₀ (2 * n + 1) 0

kept : {sizes₀ slacks₀ sizes slacks : List ℕ} {first n : ℕ} → Made sizes₀ slacks₀ sizes slacks first n → Kept sizes₀ slacks₀ sizes slacks n
kept {sizes₀} {slacks₀} {sizes} {slacks} {first} {n} made =
    record {
      left_size = made.sized.outside (2 * n) (λ p q. omega arith);
      right_size = made.sized.outside (2 * n + 1) (λ p q. omega arith);
      left_slack = made.slacked.outside (2 * n) (λ p q. omega arith);
      right_slack = made.slacked.outside (2 * n + 1) (λ p q. omega arith);
    }

pub loop-n-preserved : goal.loop-n-preserved
loop-n-preserved c = let made = c.loop-n.invariant in
    let halves = kept c.loop-n.invariant in
    record {
      sized = filled_more _ _ _ _ _ _ _ refl (omega arith) (omega arith) (ap₂ ◌+◌ halves.left_size halves.right_size) made.sized;
      slacked =
          filled_more _ _ _ _ _ _ _ refl (omega arith) (omega arith)
          (c.min.ensures ∙ ap₂ min halves.right_slack (ap₂ ◌-◌ halves.left_slack halves.right_size))
          made.slacked;
    }
