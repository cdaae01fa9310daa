-- `rules::parent_kept` meets its contract: no parent, nobody found, a parent that waits, or what the words of the edges say. Assumes nothing.
use native.Mathlib.Omega.{arith}
use mathlib.Core.Path.{refl}
use Rattle.rules.proofs.ParentLaws.{none_kept, parent_fits, parent_lacks, parent_there, parent_waits, row_inside, parent_edge}
use Rattle.rules.proofs.parent_kept.Goals as goal

pub returns-then-parent-eq-NONE : goal.returns-then-parent-eq-NONE
returns-then-parent-eq-NONE c = λ rs cs ok. none_kept rs cs _ _ c.if-parent-eq-NONE.true

pub find-requires : goal.find-requires
find-requires c = parent_fits c.requires.2 c.if-parent-eq-NONE.false

pub returns-in_default : goal.returns-in_default
returns-in_default c = λ rs cs ok. parent_lacks ok c.if-parent-eq-NONE.false _ c.in_default.ensures refl

pub returns-then-table-at-ne0 : goal.returns-then-table-at-ne0
returns-then-table-at-ne0 c = λ rs cs ok.
    let apart = c.if-parent-eq-NONE.false in
    let found = c.in-Some.ensures in
    parent_waits ok apart _ (parent_there ok apart _ found.0 (λ e. absurd (omega (arith, found.1, e)))) c.if-table-at-ne0.true

pub bounds-edges-table : goal.bounds-edges-table
bounds-edges-table c =
    let apart = c.if-parent-eq-NONE.false in
    let found = c.in-Some.ensures in
    row_inside c.requires.2 apart _ (parent_there c.requires.2 apart _ found.0 (λ e. absurd (omega (arith, found.1, e))))

pub returns : goal.returns
returns c = λ rs cs ok.
    let apart = c.if-parent-eq-NONE.false in
    let found = c.in-Some.ensures in
    parent_edge ok apart _ (parent_there ok apart _ found.0 (λ e. absurd (omega (arith, found.1, e)))) c.if-table-at-ne0.false _ c.has.ensures
