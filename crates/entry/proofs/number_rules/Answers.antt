-- `entry::number_rules` meets its contract: each way out is the first of these rules whose test fails. Assumes nothing.
use mathlib.Core.Path.{refl, sym, ◌∙◌}
use Rattle.lists.proofs.CountLaws.{denied, granted}
use Rattle.entry.proofs.BrokenLaws.{tickets_fail, nodes_fail}
use Rattle.entry.proofs.HeldLaws.{tickets_seen, nodes_seen}
use Rattle.std.proofs.lemmas.Bool.{not_from_false, not_from_true}
use Rattle.entry.proofs.number_rules.Goals as goal

pub tickets_kept-requires : goal.tickets_kept-requires
tickets_kept-requires c = (_, tickets_seen c.args.net.now c.requires)

pub returns-then-not-tickets_kept : goal.returns-then-not-tickets_kept
returns-then-not-tickets_kept c = let net = c.args.net.now in
    tickets_fail net c.requires.plan_kept
    (sym (c.tickets_kept.ensures _ (tickets_seen net c.requires)) ∙ denied _ _ refl (not_from_false _ c.if-not-tickets_kept.true))

pub nodes_known-requires : goal.nodes_known-requires
nodes_known-requires c = (_, _, nodes_seen c.args.net.now c.requires)

pub returns-then-not-nodes_known : goal.returns-then-not-nodes_known
returns-then-not-nodes_known c = let net = c.args.net.now in
    let ok = c.requires in
    nodes_fail net ok.plan_kept (sym (c.tickets_kept.ensures _ (tickets_seen net ok)) ∙ granted _ _ refl (not_from_true _ c.if-not-tickets_kept.false))
    (sym (c.nodes_known.ensures _ _ (nodes_seen net ok)) ∙ denied _ _ refl (not_from_false _ c.if-not-nodes_known.true))

pub returns : goal.returns
returns c = let net = c.args.net.now in
    let ok = c.requires in
    record {
      plan_kept = ok.plan_kept;
      tickets_are = sym (c.tickets_kept.ensures _ (tickets_seen net ok)) ∙ granted _ _ refl (not_from_true _ c.if-not-tickets_kept.false);
      nodes_are = sym (c.nodes_known.ensures _ _ (nodes_seen net ok)) ∙ granted _ _ refl (not_from_true _ c.if-not-nodes_known.false);
    }
