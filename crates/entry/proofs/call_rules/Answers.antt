-- `entry::call_rules` meets its contract: each way out is the first of these rules whose test fails. Assumes nothing.
use mathlib.Core.Path.{refl, sym, ◌∙◌}
use Rattle.lists.proofs.CountLaws.{denied, granted}
use Rattle.entry.proofs.BrokenLaws.{parents_fail, counts_fail}
use Rattle.entry.proofs.HeldLaws.{parents-seen, counting}
use Rattle.std.proofs.lemmas.Bool.{not_from_false, not_from_true}
use Rattle.entry.proofs.call_rules.Goals as goal

pub parents_kept-requires : goal.parents_kept-requires
parents_kept-requires c = (_, _, parents-seen c.args.net.now c.requires)

pub returns-then-not-parents_kept : goal.returns-then-not-parents_kept
returns-then-not-parents_kept c = let net = c.args.net.now in
    let ok = c.requires in
    parents_fail net ok.number_kept (sym (c.parents_kept.ensures _ _ (parents-seen net ok)) ∙ denied _ _ refl (not_from_false _ c.if-not-parents_kept.true))

pub kept-requires : goal.kept-requires
kept-requires c = (_, _, counting c.args.net.now c.requires)

pub returns-then-not-kept : goal.returns-then-not-kept
returns-then-not-kept c = let net = c.args.net.now in
    let ok = c.requires in
    counts_fail net ok.number_kept
    (sym (c.parents_kept.ensures _ _ (parents-seen net ok)) ∙ granted _ _ refl (not_from_true _ c.if-not-parents_kept.false))
    (sym (c.kept.ensures _ _ (counting net ok)).0 ∙ denied _ _ refl (not_from_false _ c.if-not-kept.true))

pub returns : goal.returns
returns c = let net = c.args.net.now in
    let ok = c.requires in
    let told = c.kept.ensures _ _ (counting net ok) in
    record {
      number_kept = ok.number_kept;
      parents_are = sym (c.parents_kept.ensures _ _ (parents-seen net ok)) ∙ granted _ _ refl (not_from_true _ c.if-not-parents_kept.false);
      counts_are = sym told.0 ∙ granted _ _ refl (not_from_true _ c.if-not-kept.false);
      told = told.1 (granted _ _ refl (not_from_true _ c.if-not-kept.false));
    }
