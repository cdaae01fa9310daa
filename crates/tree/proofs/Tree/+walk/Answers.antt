-- `Tree::walk` meets its contract. The measure is the height. At a leaf the place is the level; above, both halves are places one height lower,
-- and each step is the one that `walk_in` takes. Assumes nothing.
use Prim.Native.Nat.{◌-◌}
use native.Mathlib.Omega.{arith}
use mathlib.Core.Path.{◌∙◌, ap}
use Rattle.model.specs.declared.Walked.{Walked}
use Rattle.tree.proofs.WalkLaws.{halves, one_more, step_left, step_right, stood_on}
use Rattle.tree.proofs.Tree.+walk.Goals as goal

pub bounds-self-n : goal.bounds-self-n
bounds-self-n t c = omega (arith, (halves c.args.height c.args.n c.if-height-eq0.false c.requires.from c.requires.to).inside)

pub bounds-self-n-2 : goal.bounds-self-n-2
bounds-self-n-2 t c = omega (arith, (halves c.args.height c.args.n c.if-height-eq0.false c.requires.from c.requires.to).inside)

pub walk-below-requires : goal.walk-below-requires
walk-below-requires t c =
    let p = halves c.args.height c.args.n c.if-height-eq0.false c.requires.from c.requires.to in (
      omega (arith, c.decreases, c.if-height-eq0.false),
      record {
        high = omega (arith, c.requires.high);
        from = p.left_low;
        to = p.left_high;
        light = omega (arith, c.type_inv.self.0, c.requires.light, c.if-height-eq0.false);
      },
    )

pub overflow_add-result : goal.overflow_add-result
overflow_add-result t c =
    omega (
      arith,
      ap (λ (r : Walked). r.stood) c.walk-below.ensures ∙ stood_on c.args.self.now.sizes c.args.self.now.slacks (c.args.height - 1) _ _,
      c.requires.high,
    )

pub returns-then-self-n : goal.returns-then-self-n
returns-then-self-n t c =
    one_more _ _ c.walk-below.ensures
    ∙ step_left c.args.self.now.sizes c.args.self.now.slacks c.args.n c.args.carried c.args.height c.if-height-eq0.false c.if-self-n.true

pub walk-below-requires-2 : goal.walk-below-requires-2
walk-below-requires-2 t c =
    let p = halves c.args.height c.args.n c.if-height-eq0.false c.requires.from c.requires.to in (
      omega (arith, c.decreases, c.if-height-eq0.false),
      record {
        high = omega (arith, c.requires.high);
        from = p.right_low;
        to = p.right_high;
        light = omega (arith, c.requires.light);
      },
    )

pub overflow_add-result-2 : goal.overflow_add-result-2
overflow_add-result-2 t c =
    omega (
      arith,
      ap (λ (r : Walked). r.stood) c.walk-below-2.ensures ∙ stood_on c.args.self.now.sizes c.args.self.now.slacks (c.args.height - 1) _ _,
      c.requires.high,
    )

pub returns : goal.returns
returns t c =
    one_more _ _ c.walk-below-2.ensures
    ∙ step_right c.args.self.now.sizes c.args.self.now.slacks c.args.n c.args.carried c.args.height c.if-height-eq0.false c.if-self-n.false
