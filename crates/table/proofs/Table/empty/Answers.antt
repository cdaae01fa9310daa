-- `Table::empty` meets its contract: a list of zeros has a zero at each place, and past its end. Assumes nothing.
use mathlib.Core.Path.{refl}
use Rattle.table.proofs.GapLaws.{zeros_padded}
use Rattle.table.proofs.Table.empty.Goals as goal

pub returns : goal.returns
returns c = record { tickets_table = zeros_padded; parents_table = zeros_padded; keys_table = zeros_padded; nodes_table = zeros_padded; none_open = refl }
