-- The checks of the end record over a plan's value are those on the records that it holds, where these are right; and one number fits. Assumes
-- nothing.
use Prim.Native.Nat.{ℕ}
use mathlib.Core.Path.{◌≡◌, sym, ◌∙◌}
use mathlib.Core.Bool.{false}
use Rattle.lists.proofs.CountLaws.{not_true_false}
use Rattle.model.specs.Plan.{loops, self_depends, end_fault}
use Rattle.model.specs.PlanValue.{records_of}
use Rattle.model.specs.Records.{RecordsOk}
use Rattle.model.specs.declared.Plan.{Plan}
use Rattle.model.proofs.FaultLaws.{plan_7, plan_8, plan_sound}
use Rattle.cycles.proofs.WithinLaws.{loops_within, self_depends_within}
use Rattle.record.specs.Whole.{Loops, Dependent, WholeFault, seven, eight, neither}

module _ (p : Plan) where
  pub whole_is : {n : ℕ} → RecordsOk (records_of p) → WholeFault p n → n ≡ end_fault (records_of p)
  whole_is {n} ok fault = go fault
    where
      no_loop : (Loops p → ⊥) → loops (records_of p) ≡ false
      no_loop never = not_true_false (loops (records_of p)) (λ e. never ((loops_within (records_of p) ok).0 e))

      none-dependent : (Dependent p → ⊥) → self_depends (records_of p) ≡ false
      none-dependent never = not_true_false (self_depends (records_of p)) (λ e. never ((self_depends_within (records_of p) ok).0 e))

      go : WholeFault p n → n ≡ end_fault (records_of p)
      go (seven l e) = e ∙ sym ((plan_7 (records_of p)).1 ((loops_within (records_of p) ok).1 l))
      go (eight l d e) = e ∙ sym ((plan_8 (records_of p)).1 (no_loop l, (self_depends_within (records_of p) ok).1 d))
      go (neither l d e) = e ∙ sym ((plan_sound (records_of p)).1 (no_loop l, none-dependent d))

  pub whole_one : {n m : ℕ} → WholeFault p n → WholeFault p m → n ≡ m
  whole_one (seven l e) (seven k f) = e ∙ sym f
  whole_one (seven l e) (eight k d f) = absurd (k l)
  whole_one (seven l e) (neither k d f) = absurd (k l)
  whole_one (eight l d e) (seven k f) = absurd (l k)
  whole_one (eight l d e) (eight k c f) = e ∙ sym f
  whole_one (eight l d e) (neither k c f) = absurd (c d)
  whole_one (neither l d e) (seven k f) = absurd (l k)
  whole_one (neither l d e) (eight k c f) = absurd (d c)
  whole_one (neither l d e) (neither k c f) = e ∙ sym f
