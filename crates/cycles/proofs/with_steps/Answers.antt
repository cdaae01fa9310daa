-- `cycles::with_steps` meets its contract. The loop's invariant: the steps to the nodes below m are taken. Assumes nothing.
use Prim.Native.Nat.{ℕ, ◌+◌, ◌<◌}
use native.Mathlib.Omega.{arith}
use mathlib.Core.Path.{sym, subst, ◌∙◌}
use Rattle.ids.specs.Limits.{nodes}
use Rattle.cycles.specs.Within.{steps_in}
use Rattle.cycles.proofs.StepLaws.{Stepping, stepping_skip, stepping_with}
use Rattle.cycles.proofs.with_steps.Goals as goal
use Rattle.cycles.proofs.with_steps.Goals.{then-steps_down, else-steps_down}

pub loop-m-preserved : goal.loop-m-preserved
loop-m-preserved c = let a = c.args in
    let m = c.loop-m.m in
    let steps = steps_in a.sited.now.places a.sited.now.levels a.n in
    let inside : m < nodes = omega (arith, c.loop-m-test.true) in
    let told = c.steps_down.ensures in
    elim c.if-steps_down.branch [
      | then-steps_down w ↦
          subst (λ (word : ℕ). Stepping a.set word steps (m + 1)) (sym (w.row-is ∙ w.with-row.ensures))
          (stepping_with a.set c.loop-m.row steps m inside c.loop-m.invariant (sym told ∙ w.if-steps_down.true))
      | else-steps_down w ↦
          subst (λ (word : ℕ). Stepping a.set word steps (m + 1)) (sym w.row-is)
          (stepping_skip a.set c.loop-m.row steps m inside c.loop-m.invariant (sym told ∙ w.if-steps_down.false))
    ]
