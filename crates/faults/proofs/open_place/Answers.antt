-- `faults::open_place` meets its contract: no ticket is nobody's, and any other stands where the search finds it. Assumes nothing.
use mathlib.Core.Path.{ap, ◌∙◌}
use Rattle.model.specs.Net.{lookup}
use Rattle.faults.proofs.LadderLaws.{find_fits, nobody_0, open-at}
use Rattle.faults.proofs.open_place.Goals as goal

pub returns-then-ticket-eq-NONE : goal.returns-then-ticket-eq-NONE
returns-then-ticket-eq-NONE c = λ rs cs seen. ap (lookup cs) c.if-ticket-eq-NONE.true ∙ nobody_0 seen

pub find-requires : goal.find-requires
find-requires c = find_fits c.requires.2 _ c.if-ticket-eq-NONE.false

pub returns : goal.returns
returns c = λ rs cs seen. open-at seen c.args.ticket c.if-ticket-eq-NONE.false c.find.result c.find.ensures
