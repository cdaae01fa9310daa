-- `Page::mark` meets its contract: what is put in each arm is the text of what stands there. Assumes nothing.
use native.Mathlib.Omega.{arith}
use Prim.Native.Nat.{◌≤◌}
use mathlib.Core.Path.{◌≡◌, sym, ap}
use lib.ListN.{length}
use Rattle.text.specs.declared.Mark.{Mark}
use Rattle.text.specs.Lines.{printed, mark_told}
use Rattle.text.specs.Room.{said_room}
use Rattle.text.proofs.DigitLaws.{spaced_most}
use Rattle.text.proofs.PutLaws.{put_as}
use Rattle.text.proofs.Page.mark.Goals as goal

-- the text is that of what it was found to be
text_as : {what case : Mark} → what ≡ case → printed (mark_told case) ≡ printed (mark_told what)
text_as is = sym (ap (λ (w : Mark). printed (mark_told w)) is)

few_as : {what case : Mark} → what ≡ case → length (printed (mark_told case)) ≤ said_room → length (printed (mark_told what)) ≤ said_room
few_as is few = omega (arith, few, ap length (text_as is))

pub returns-in-Letter-clause-put : goal.returns-in-Letter-clause-put
unfolding printed
returns-in-Letter-clause-put c = put_as (text_as c.in-Letter.is) c.letter.ensures.put

pub returns-in-Letter-clause-few : goal.returns-in-Letter-clause-few
unfolding printed
returns-in-Letter-clause-few c = few_as c.in-Letter.is (omega arith)

pub returns-in-Number-clause-put : goal.returns-in-Number-clause-put
unfolding printed
returns-in-Number-clause-put c = put_as (text_as c.in-Number.is) c.number.ensures.put

pub returns-in-Number-clause-few : goal.returns-in-Number-clause-few
unfolding printed
returns-in-Number-clause-few c = few_as c.in-Number.is (omega (arith, spaced_most c.in-Number.n (omega arith)))

pub returns-in-Refusal-clause-put : goal.returns-in-Refusal-clause-put
unfolding printed
returns-in-Refusal-clause-put c = put_as (text_as c.in-Refusal.is) c.marked.ensures.put

pub returns-in-Refusal-clause-few : goal.returns-in-Refusal-clause-few
unfolding printed
returns-in-Refusal-clause-few c = few_as c.in-Refusal.is (omega (arith, spaced_most c.in-Refusal.number (omega arith)))

pub returns-in-Level-clause-put : goal.returns-in-Level-clause-put
unfolding printed
returns-in-Level-clause-put c = put_as (text_as c.in-Level.is) c.marked-in-Level.ensures.put

pub returns-in-Level-clause-few : goal.returns-in-Level-clause-few
unfolding printed
returns-in-Level-clause-few c = few_as c.in-Level.is (omega (arith, spaced_most c.in-Level.level (omega arith)))
