-- `apart::fill` meets its contract: the numbers, and the keys beside them. Assumes nothing.
use Prim.Native.Nat.{ℕ}
use mathlib.Core.Path.{sym, subst, ◌∙◌}
use mathlib.Core.List.{List}
use Rattle.table.specs.Places.{Padded}
use Rattle.apart.proofs.ApartLaws.{numbers_beside}
use Rattle.apart.proofs.fill.Goals as goal

pub keys-requires-clause-keyless : goal.keys-requires-clause-keyless
keys-requires-clause-keyless c = let no = c.requires.nothing in
    subst (λ (keys : List ℕ). Padded keys 0) (sym c.numbers.ensures.keyless)
    (subst (λ (used : ℕ). Padded c.args.table.now.keys used) no.none_open no.keys_table)

pub returns-clause-numbered : goal.returns-clause-numbered
returns-clause-numbered c = numbers_beside c.args.net.now c.keys.ensures.beside c.numbers.ensures.numbered

pub returns-clause-counted : goal.returns-clause-counted
returns-clause-counted c = c.keys.ensures.beside.same_count ∙ c.numbers.ensures.counted
