-- `text::put_number` meets its contract: in each case the stores and the pairs behind them are the digits that the definition has. Assumes nothing.
use native.Mathlib.Omega.{arith}
use lib.ListN.{length-set}
use Rattle.text.proofs.PutLaws.{put_1, put_2, put_then, put_as, room_left}
use Rattle.text.proofs.DigitLaws.{spaced-one, spaced_two, spaced_three, spaced_four, spaced_five, pair_most}
use Rattle.text.proofs.put_number.Goals as goal

-- Five digits
pub put_pair-requires : goal.put_pair-requires
put_pair-requires c = (omega arith, room_left 2 2 c.put_pair-middle.ensures (pair_most _) (simp length-set (omega arith)))

pub returns-then-n-ge10000 : goal.returns-then-n-ge10000
returns-then-n-ge10000 c = put_as (spaced_five _ (omega arith) (omega arith)) (put_then (put_then (put_2 _ _ _ _ (omega arith)) c.put_pair-middle.ensures) c.put_pair.ensures)

-- One digit
pub returns-then-n-lt10 : goal.returns-then-n-lt10
returns-then-n-lt10 c = put_as (spaced-one _ (omega arith)) (put_2 _ _ _ _ (omega arith))

-- Two digits
pub returns-then-n-lt100 : goal.returns-then-n-lt100
returns-then-n-lt100 c = put_as (spaced_two _ (omega arith) (omega arith)) (put_then (put_1 _ _ _ (omega arith)) c.put_pair-then-n-lt100.ensures)

-- Three digits
pub returns-then-n-lt1000 : goal.returns-then-n-lt1000
returns-then-n-lt1000 c = put_as (spaced_three _ (omega arith) (omega arith)) (put_then (put_2 _ _ _ _ (omega arith)) c.put_pair-then-n-lt1000.ensures)

-- Four digits
pub put_pair-requires-2 : goal.put_pair-requires-2
put_pair-requires-2 c = (omega arith, room_left 2 2 c.put_pair-middle-2.ensures (pair_most _) (simp length-set (omega arith)))

pub returns : goal.returns
returns c = put_as (spaced_four _ (omega arith) (omega arith)) (put_then (put_then (put_1 _ _ _ (omega arith)) c.put_pair-middle-2.ensures) c.put_pair-2.ensures)
