-- `pack::packed` meets its contract: the counts and the calls are those of whichever calls the table holds. Assumes nothing.
use Rattle.pack.proofs.PackLaws.{counting, packed_numbers}
use borrow.Author.Rules.{rules}
use Rattle.pack.proofs.packed.Goals as goal

pub count-requires : goal.count-requires
count-requires c = (_, _, counting (search rules) c.requires.1)

pub returns : goal.returns
returns c = λ cs ok.
    packed_numbers (search rules) ok _ _ c.unwrap_or_else-counts.ensures (c.count.ensures _ cs (counting (search rules) ok))
    (c.join-calls.ensures _ cs ok.joining)
