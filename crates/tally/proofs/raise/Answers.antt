-- `tally::raise` meets its contract: whichever calls the counts tell, a waiting call leaves them and an active one raises its place. Assumes nothing.
use Prim.Native.Nat.{ℕ}
use native.Mathlib.Omega.{arith}
use mathlib.Core.Path.{refl, sym, subst}
use mathlib.Core.List.{[], ◌∷◌, ◌++◌}
use Rattle.std.specs.Prelude.{Option}
use Rattle.tally.specs.Tally.{CountTold, left_in}
use lib.ListN.{length-set}
use Rattle.tally.proofs.RaiseLaws.{inside, raised_not, raised_more, raised_over}
use Rattle.tally.proofs.raise.Goals as goal

pub returns-then-key-ne0 : goal.returns-then-key-ne0
returns-then-key-ne0 c = (refl, λ rs cs call b. raised_not b c.if-key-ne0.true)

pub bounds-counts-at : goal.bounds-counts-at
bounds-counts-at c = inside c.requires.3

pub bounds-counts-at-2 : goal.bounds-counts-at-2
bounds-counts-at-2 c = inside c.requires.3

pub returns-in_err-counts : goal.returns-in_err-counts
returns-in_err-counts c = (
  refl,
  λ rs cs call b.
      subst (λ (r : Option Unit). CountTold rs (cs ++ (call ∷ [])) (left_in c.args.counts.now r)) (sym c.from_residual.ensures)
      (raised_over b c.if-key-ne0.false _ refl (omega (arith, c.in_err-counts.ensures))),
)

pub returns : goal.returns
returns c = (length-set {A = ℕ} c.args.counts.now _ _, λ rs cs call b. raised_more b c.if-key-ne0.false _ refl _ c.in_ok-counts.ensures.1)
