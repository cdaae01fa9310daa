-- What is in the way of a level at a lawful site: the highest full level at or below it is there exactly where the level may not be admitted, and it is the only
-- number that is so. By the limit, which is the lowest full level. Assumes nothing.
use Prim.Native.Nat.{ℕ, suc, ◌≤◌, ◌<◌}
use native.Mathlib.Omega.{arith}
use mathlib.Core.Path.{◌≡◌, sym, ◌∙◌}
use mathlib.Core.Logic.{⊎_elim}
use mathlib.Core.Bool.{true, false}
use mathlib.Core.List.{List}
use lib.ListN.{length}
use borrow.Author.Tests.{ltb-false, le-ltb}
use Rattle.lists.proofs.CountLaws.{lt_or_ge, never_both, first_holds, first_before, last_is, last-holds}
use Rattle.model.specs.Site.{lawful, may_admit, full, limit, blocking, InTheWay}
use Rattle.model.proofs.RuleLaws.{admits_below}

module _ (T : ℕ) (a : List ℕ) (i : ℕ) (long : T ≤ length a) (law : lawful T a ≡ true) (below : i < T) where
  pub blocked_by : may_admit T a i ≡ false → InTheWay T a i (blocking T a i)
  unfolding limit blocking
  blocked_by e =
      let low : limit T a ≤ i = ltb-false i (limit T a) (sym (admits_below T a i long law) ∙ e) in
      let w = last-holds (suc i) (full T a) (limit T a) (omega arith) (first_holds T (full T a) (omega arith)) in
      record { is_full = w.0; at_or_below = omega (arith, w.1); none_between = λ j h l. w.2 j h (omega arith) }

  module _ (k : ℕ) (way : InTheWay T a i k) where
    limit_low : limit T a ≤ k
    unfolding limit
    limit_low =
        ⊎_elim
        (λ (p : k < limit T a). absurd (never_both way.is_full (first_before T (full T a) k p)))
        (λ (p : limit T a ≤ k). p)
        (lt_or_ge k (limit T a))

    pub blocks_only : (may_admit T a i ≡ false) × (blocking T a i ≡ k)
    unfolding blocking
    blocks_only = (
      admits_below T a i long law ∙ le-ltb i (limit T a) (omega (arith, limit_low, way.at_or_below)),
      last_is (suc i) (full T a) k (omega (arith, way.at_or_below)) way.is_full (λ j h l. way.none_between j h (omega arith)),
    )
