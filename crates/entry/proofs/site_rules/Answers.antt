-- `entry::site_rules` meets its contract: each way out is the first of these rules whose test fails, or none is broken. Assumes nothing.
use mathlib.Core.Path.{refl, sym, ◌∙◌}
use Rattle.lists.proofs.CountLaws.{denied, granted}
use Rattle.entry.proofs.BrokenLaws.{lawful_fails, settled-fails, none_broken}
use Rattle.entry.proofs.HeldLaws.{can_room, settled-seen}
use Rattle.std.proofs.lemmas.Bool.{not_from_false, not_from_true}
use Rattle.entry.proofs.site_rules.Goals as goal

pub fill_rooms-requires-clause-counted : goal.fill_rooms-requires-clause-counted
fill_rooms-requires-clause-counted c = (_, _, can_room c.args.net.now c.requires.call_kept)

pub returns-in_default : goal.returns-in_default
returns-in_default c = let net = c.args.net.now in
    lawful_fails net c.requires.call_kept (sym (c.in_default.ensures _ _ (can_room net c.requires.call_kept)))

pub settled-requires : goal.settled-requires
settled-requires c = let net = c.args.net.now in
    let ok = c.requires in
    let told = c.in-Some.ensures _ _ (can_room net ok.call_kept) in
    (_, _, settled-seen net ok.call_kept (sym told.0) ok.tabled told.1)

pub returns-then-not-settled : goal.returns-then-not-settled
returns-then-not-settled c = let net = c.args.net.now in
    let ok = c.requires in
    let told = c.in-Some.ensures _ _ (can_room net ok.call_kept) in
    settled-fails net ok.call_kept (sym told.0)
    (sym (c.settled.ensures _ _ (settled-seen net ok.call_kept (sym told.0) ok.tabled told.1)) ∙ denied _ _ refl (not_from_false _ c.if-not-settled.true))

pub returns : goal.returns
returns c = let net = c.args.net.now in
    let ok = c.requires in
    let told = c.in-Some.ensures _ _ (can_room net ok.call_kept) in
    let asleep =
    sym (c.settled.ensures _ _ (settled-seen net ok.call_kept (sym told.0) ok.tabled told.1))
    ∙ granted _ _ refl (not_from_true _ c.if-not-settled.false)
    in
    record {
      fault = none_broken net ok.call_kept (sym told.0) asleep;
      same = refl;
      kept = record { lawful_are = sym told.0; settled_are = asleep; of_rooms = told.1 };
    }
