-- `text::Page::digits` meets its contract: a number of one digit is that digit, and any other has the digits of its tenth and one more. The measure is the
-- number. Assumes nothing.
use Prim.Native.Nat.{◌/◌}
use native.Mathlib.Omega.{arith}
use mathlib.Core.Path.{ap}
use lib.ListN.{length}
use Rattle.model.specs.Text.{decimal}
use Rattle.text.proofs.PutLaws.{put_then, put_as, room_left}
use Rattle.text.proofs.DigitLaws.{decimal-one, decimal_more, decimal_longer}
use Rattle.text.proofs.Page.+digits.Goals as goal

-- One digit
pub put-requires : goal.put-requires
put-requires t c = omega (arith, c.requires, ap length (decimal-one c.args.n (omega arith)))

pub returns-then-n-lt10-clause-put : goal.returns-then-n-lt10-clause-put
returns-then-n-lt10-clause-put t c = put_as (decimal-one _ (omega arith)) c.put.ensures.put

-- The digits of its tenth, and the last one
pub digits-requires : goal.digits-requires
digits-requires t c = (omega arith, omega (arith, c.requires, decimal_longer c.args.n (omega arith) (omega arith)))

pub put-requires-2 : goal.put-requires-2
put-requires-2 t c =
    let longer = decimal_longer c.args.n (omega arith) (omega arith) in
    room_left (length (decimal (c.args.n / 10))) 1 c.digits.ensures.put (omega arith) (omega (arith, longer, c.requires))

pub returns-clause-put : goal.returns-clause-put
returns-clause-put t c = put_as (decimal_more _ (omega arith) (omega arith)) (put_then c.digits.ensures.put c.put-2.ensures.put)
