-- `faults::free` meets its contract: the first two tests of a start are those of a call. Assumes nothing.
use mathlib.Core.Path.{sym, ◌∙◌}
use Rattle.faults.proofs.LadderLaws.{find_fits, open-at, open_who, open_none, start_20, call_20, start-21, call-21}
use Rattle.faults.proofs.free.Goals as goal

pub returns-then-ticket-eq-NONE : goal.returns-then-ticket-eq-NONE
returns-then-ticket-eq-NONE c = λ rs cs seen.
    (λ node. start_20 rs cs _ node c.if-ticket-eq-NONE.true, λ parent node. call_20 rs cs _ parent node c.if-ticket-eq-NONE.true)

pub find-requires : goal.find-requires
find-requires c = find_fits c.requires.2 _ c.if-ticket-eq-NONE.false

pub returns-then-is_some : goal.returns-then-is_some
returns-then-is_some c = λ rs cs seen.
    let at = open-at seen c.args.ticket c.if-ticket-eq-NONE.false c.find.result c.find.ensures in
    let who = open_who cs c.args.ticket c.find.result at (sym c.is_some.ensures ∙ c.if-is_some.true) in
    (λ node. start-21 rs cs _ c.if-ticket-eq-NONE.false node who.0 who.1, λ parent node. call-21 rs cs _ c.if-ticket-eq-NONE.false parent node who.0 who.1)

pub returns : goal.returns
returns c = λ rs cs seen.
    let at = open-at seen c.args.ticket c.if-ticket-eq-NONE.false c.find.result c.find.ensures in
    (c.if-ticket-eq-NONE.false, open_none cs c.args.ticket c.find.result at (sym c.is_some.ensures ∙ c.if-is_some.false))
