-- `tally::kept` meets its contract: a count that no byte holds decides, and else the comparison with what was counted. Assumes nothing.
use native.Mathlib.Omega.{arith}
use mathlib.Core.Path.{refl}
use mathlib.Core.Bool.{false}
use Rattle.lists.proofs.CountLaws.{never_both}
use Rattle.tally.proofs.KeptLaws.{many_fail, kept_is}
use Rattle.tally.proofs.kept.Goals as goal

pub returns-in_default : goal.returns-in_default
returns-in_default c = λ rs cs ok. (
  many_fail rs cs _ (λ i. omega (arith, c.fits-counts i)) (c.in_default.ensures rs cs ok),
  λ e. absurd (never_both {b = false} e refl),
)

pub returns : goal.returns
returns c = λ rs cs ok. kept_is rs cs _ c.told-counts (c.in-Some.ensures rs cs ok) _ c.eq.ensures
