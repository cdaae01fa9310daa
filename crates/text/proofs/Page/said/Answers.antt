-- `Page::said` meets its contract: a refusal is its mark and its number. Assumes nothing.
use native.Mathlib.Omega.{arith}
use lib.ListN.{length}
use Rattle.model.specs.Refusal.{refusal_told}
use Rattle.text.proofs.DigitLaws.{spaced_most}
use mathlib.Core.Path.{sym, ap, ◌∙◌}
use Rattle.std.specs.Prelude.{Result}
use Rattle.model.specs.Text.{refusal_text}
use Rattle.model.specs.declared.Refusal.{Refusal}
use Rattle.text.specs.declared.Printed.{Printed}
use Rattle.text.specs.Lines.{printed, shown_told}
use Rattle.text.proofs.PutLaws.{put_as}
use Rattle.text.proofs.Page.said.Goals as goal

pub returns-in-Err-clause-put : goal.returns-in-Err-clause-put
unfolding printed
returns-in-Err-clause-put c =
    let told = sym (ap (λ (w : Result Printed Refusal). printed (shown_told w)) c.in-Err.is) in
    put_as (ap refusal_text c.from.ensures ∙ told) c.marked.ensures.put

pub returns-in-Err-clause-few : goal.returns-in-Err-clause-few
unfolding printed
returns-in-Err-clause-few c =
    let told = ap (λ (w : Result Printed Refusal). length (printed (shown_told w))) c.in-Err.is in
    omega (arith, told, spaced_most (refusal_told c.in-Err.why) (omega (arith, c.from.ensures, c.from.type_inv)))
