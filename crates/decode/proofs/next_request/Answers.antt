-- `decode::next_request` meets its contract: at each return the kind byte and the bytes left behind it are those of one case of `next`.
-- Assumes nothing.
use mathlib.Core.Path.{sym}
use Rattle.decode.proofs.NextLaws.{lacks_kind, strange, short, complete}
use Rattle.decode.proofs.next_request.Goals as goal

pub returns-then-bytes-at : goal.returns-then-bytes-at
returns-then-bytes-at c = lacks_kind c.args.bytes.now c.args.at c.if-bytes-at.true

pub returns-in_default : goal.returns-in_default
returns-in_default c = strange c.args.bytes.now c.args.at c.if-bytes-at.false (sym c.in_default.ensures)

pub returns-then-bytes-at-2 : goal.returns-then-bytes-at-2
returns-then-bytes-at-2 c = short c.args.bytes.now c.args.at c.if-bytes-at.false c.in-Some.size (sym c.in-Some.ensures) c.if-bytes-at-2.true

pub returns : goal.returns
returns c = complete c.args.bytes.now c.args.at c.if-bytes-at.false c.in-Some.size (sym c.in-Some.ensures) c.if-bytes-at-2.false c.request_in.result c.request_in.ensures
