-- `Page::accepted` meets its contract: what is put in each arm is the text of that answer. Assumes nothing.
use native.Mathlib.Omega.{arith}
use Prim.Native.Nat.{◌≤◌}
use lib.ListN.{length}
use Rattle.text.specs.Room.{said_room}
use Rattle.text.proofs.DigitLaws.{spaced_most}
use mathlib.Core.Path.{◌≡◌, sym, ap}
use Rattle.text.specs.declared.Printed.{Printed}
use Rattle.text.specs.Lines.{printed, accepted_told}
use Rattle.text.proofs.PutLaws.{put_as}
use Rattle.text.proofs.Page.accepted.Goals as goal

-- the text of an answer is that of what it was found to be
said_as : {said case : Printed} → said ≡ case → printed (accepted_told case) ≡ printed (accepted_told said)
said_as is = sym (ap (λ (w : Printed). printed (accepted_told w)) is)

few_as : {said case : Printed} → said ≡ case → length (printed (accepted_told case)) ≤ said_room → length (printed (accepted_told said)) ≤ said_room
few_as is few = omega (arith, few, ap length (said_as is))

pub returns-in-Active-clause-put : goal.returns-in-Active-clause-put
unfolding printed
returns-in-Active-clause-put c = put_as (said_as c.in-Active.is) c.letter.ensures.put

pub returns-in-Active-clause-few : goal.returns-in-Active-clause-few
unfolding printed
returns-in-Active-clause-few c = few_as c.in-Active.is (omega arith)

pub returns-in-Waits-clause-put : goal.returns-in-Waits-clause-put
unfolding printed
returns-in-Waits-clause-put c = put_as (said_as c.in-Waits.is) c.marked.ensures.put

pub returns-in-Waits-clause-few : goal.returns-in-Waits-clause-few
unfolding printed
returns-in-Waits-clause-few c = few_as c.in-Waits.is (omega (arith, spaced_most c.in-Waits.level (omega arith)))

pub returns-in-Running-clause-put : goal.returns-in-Running-clause-put
unfolding printed
returns-in-Running-clause-put c = put_as (said_as c.in-Running.is) c.letter-in-Running.ensures.put

pub returns-in-Running-clause-few : goal.returns-in-Running-clause-few
unfolding printed
returns-in-Running-clause-few c = few_as c.in-Running.is (omega arith)

pub returns-in-Waiting-clause-put : goal.returns-in-Waiting-clause-put
unfolding printed
returns-in-Waiting-clause-put c = put_as (said_as c.in-Waiting.is) c.letter-in-Waiting.ensures.put

pub returns-in-Waiting-clause-few : goal.returns-in-Waiting-clause-few
unfolding printed
returns-in-Waiting-clause-few c = few_as c.in-Waiting.is (omega arith)

pub returns-in-Absent-clause-put : goal.returns-in-Absent-clause-put
unfolding printed
returns-in-Absent-clause-put c = put_as (said_as c.in-Absent.is) c.letter-in-Absent.ensures.put

pub returns-in-Absent-clause-few : goal.returns-in-Absent-clause-few
unfolding printed
returns-in-Absent-clause-few c = few_as c.in-Absent.is (omega arith)

pub returns-in-Number-clause-put : goal.returns-in-Number-clause-put
unfolding printed
returns-in-Number-clause-put c = put_as (said_as c.in-Number.is) c.number.ensures.put

pub returns-in-Number-clause-few : goal.returns-in-Number-clause-few
unfolding printed
returns-in-Number-clause-few c = few_as c.in-Number.is (omega (arith, spaced_most c.in-Number.n (omega arith)))
