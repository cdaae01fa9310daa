-- `rules::parents_kept` meets its contract: whichever calls the arrays hold, those before the loop's place have their parents. Assumes nothing.
use mathlib.Core.Path.{◌∙◌}
use Rattle.rules.proofs.CallLaws.{passes_on, one_decides, all_pass}
use Rattle.rules.proofs.ParentLaws.{parent_seen, call_kept}
use Rattle.rules.proofs.parents_kept.Goals as goal

pub parent_kept-requires : goal.parent_kept-requires
parent_kept-requires c = let seen = c.requires in
    (seen.0, seen.1, parent_seen seen.2 c.loop-i.i c.loop-i-test.true)

pub returns-then-not-parent_kept : goal.returns-then-not-parent_kept
returns-then-not-parent_kept c = let i = c.loop-i.i in
    let inside = c.loop-i-test.true in
    λ rs cs ok.
    one_decides _ ok.seen.counted i inside
    (call_kept ok i inside _ (c.parent_kept.ensures rs cs (parent_seen ok i inside)) ∙ c.if-not-parent_kept.true)

pub loop-i-preserved : goal.loop-i-preserved
loop-i-preserved c = let i = c.loop-i.i in
    let inside = c.loop-i-test.true in
    λ rs cs ok.
    passes_on _ ok.seen.counted i inside (c.loop-i.invariant rs cs ok)
    (call_kept ok i inside _ (c.parent_kept.ensures rs cs (parent_seen ok i inside)) ∙ c.if-not-parent_kept.false)

pub returns : goal.returns
returns c = λ rs cs ok. all_pass _ ok.seen.counted c.loop-i.i c.loop-i-test.false (c.loop-i.invariant rs cs ok)
