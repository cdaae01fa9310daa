-- `text::put_pair` meets its contract: the two bytes of the one number are the two digits. Assumes nothing.
use native.Mathlib.Omega.{arith}
use Rattle.text.proofs.PutLaws.{put_2, put_as}
use Rattle.text.proofs.DigitLaws.{pair_stored}
use Rattle.text.proofs.put_pair.Goals as goal

pub returns : goal.returns
returns c = put_as (pair_stored _ (omega arith)) (put_2 _ _ _ _ (omega arith))
