-- A part of a list is written anew from its front, one entry after the other: nothing at first, and one entry more at each store.
-- Assumes nothing.
use Prim.Native.Nat.{ℕ, ◌+◌, ◌≤◌, ◌<◌}
use native.Mathlib.Omega.{arith}
use mathlib.Core.Path.{◌≡◌, refl, ap, subst, ◌∙◌}
use mathlib.Core.Logic.{⊎_elim}
use mathlib.Core.List.{List}
use lib.ListN.{length, get_or, set, length-set}
use lib.Seq.{get_or-set_same, get_or-set_other}
use Rattle.lists.specs.Fill.{Filled, renewed}
use Rattle.lists.proofs.CountLaws.{lt_or_ge}

pub filled_none : (f : ℕ → ℕ) (from : ℕ) (old : List ℕ) → Filled f from from old old
filled_none f from old = record { long = refl; inside = λ n p q. absurd (omega arith); outside = λ n p. refl }

pub filled_more : (f : ℕ → ℕ) (from to next : ℕ) (old new : List ℕ) (v : ℕ)
    → next ≡ to + 1 → from ≤ to → to < length old → v ≡ f to → Filled f from to old new → Filled f from next old (set new to v)
filled_more f from to next old new v one h l e w =
    record {
      long = length-set new to v ∙ w.long;
      inside = λ n p q.
          ⊎_elim
          (λ (r : n < to). get_or-set_other new to n v 0 (omega arith) ∙ w.inside n p r)
          (λ (r : to ≤ n).
          let s : to ≡ n = omega arith in
          subst (λ (m : ℕ). get_or (set new to v) m 0 ≡ f m) s (get_or-set_same new to v 0 (omega (arith, w.long)) ∙ e))
          (lt_or_ge n to);
      outside = λ n p.
          get_or-set_other new to n v 0 (λ (r : n ≡ to). p (omega arith) (omega arith)) ∙ w.outside n (λ a b. p a (omega arith));
    }

pub filled_to : {f : ℕ → ℕ} {from to end : ℕ} {old new : List ℕ} → to ≡ end → Filled f from to old new → Filled f from end old new
filled_to {f} {from} {to} {end} {old} {new} e w = subst (λ (m : ℕ). Filled f from m old new) e w

pub filled_of : {f : ℕ → ℕ} {from to : ℕ} {old older new : List ℕ} → old ≡ older → Filled f from to old new → Filled f from to older new
filled_of {f} {from} {to} {old} {older} {new} e w = subst (λ (l : List ℕ). Filled f from to l new) e w

-- the next entry changed where it stands
pub filled_each : (change : ℕ → ℕ) {old new : List ℕ} {base : ℕ} (k : ℕ) → base + k < length old → Filled (renewed change old) base (base + k) old new
    → Filled (renewed change old) base (base + (k + 1)) old (set new (base + k) (change (get_or new (base + k) 0)))
unfolding renewed
filled_each change {old} {new} {base} k h w =
    filled_more (renewed change old) base (base + k) (base + (k + 1)) old new (change (get_or new (base + k) 0)) (omega arith) (omega arith) h
    (ap change (w.outside (base + k) (λ p q. omega arith))) w
