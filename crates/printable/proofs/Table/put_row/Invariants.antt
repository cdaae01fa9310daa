-- `Table::put_row` meets its contract. The loop's invariant: the places of the row below m are written. Assumes nothing.
use Rattle.words.specs.Words.{member}
use Rattle.printable.specs.Filling.{Rowed}
use Rattle.printable.proofs.Table.put_row.Given as goal

abbrev pub invariant-loop-m : goal.invariant-loop-m
invariant-loop-m l = Rowed l.initial.self.cells l.self.cells l.n (member l.set) l.m
