-- `lookup::find` meets its contract: the chain's position among the first calls is the place of the definition. Assumes nothing.
use Rattle.std.proofs.Common.{rules, tests, ◌∙◌}
use Rattle.std.proofs.lemmas.Iterator.{YieldsList-from_slice, YieldsList-from_take}
use Rattle.std.proofs.lemmas.Iterator.Search.{position_from_yields_List}
use Rattle.lookup.proofs.SearchLaws.{of_ticket, position_placed}
use Rattle.lookup.proofs.find.Goals as goal

pub returns : goal.returns
returns c =
    position_from_yields_List (of_ticket c.args.ticket.0) _ _ c.position.result c.position.ensures.ran
    (YieldsList-from_take c.args.used (YieldsList-from_slice c.args.calls.now cc) cc)
    (λ x b q k. search (rules, tests))
    ∙ position_placed c.args.calls.now c.args.ticket.0 c.args.used
