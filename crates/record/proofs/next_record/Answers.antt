-- `record::next_record` meets its contract: at each return the kind byte and the bytes left behind it are those of one case of `next`.
-- Assumes nothing.
use native.Mathlib.Omega.{arith}
use borrow.Author.Tests.{true-ltb, false-ltb}
use Rattle.record.proofs.NextLaws.{lacks_kind, strange, short, complete}
use Rattle.record.proofs.next_record.Goals as goal

pub returns-in_default : goal.returns-in_default
returns-in_default c = lacks_kind _ _ (false-ltb _ _ c.in_default.ensures.lookup.0)

pub returns-in_default-body_length : goal.returns-in_default-body_length
returns-in_default-body_length c =
    let here = c.in-Some.ensures.lookup in strange _ _ (true-ltb _ _ here.0) _ (here.3.1 0) c.in_default-body_length.ensures

pub returns-in_default-get : goal.returns-in_default-get
returns-in_default-get c =
    let here = c.in-Some.ensures.lookup in
    short _ _ (true-ltb _ _ here.0) _ (here.3.1 0) _ c.in-Some-body_length.ensures (omega (arith, c.in_default-get.ensures.lookup.0))

pub returns : goal.returns
returns c =
    let here = c.in-Some.ensures.lookup in
    let whole = c.in-Some-get.ensures.lookup.0 in
    complete _ _ (true-ltb _ _ here.0) _ (here.3.1 0) _ c.in-Some-body_length.ensures whole.1 _ whole.2 _ c.record_in.ensures
