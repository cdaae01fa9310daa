-- `apart::keys` meets its contract: up to the place where the loop stands the keys are those of the first calls, and nothing else is changed. Assumes nothing.
use native.Mathlib.Omega.{arith}
use mathlib.Core.Path.{refl, ◌∙◌}
use borrow.Author.Rules.{rules}
use Rattle.model.specs.PlanValue.{Sized}
use Rattle.apart.proofs.ApartLaws.{nothing_told, tells_next}
use Rattle.apart.proofs.KeyLaws.{key_told}
use Rattle.apart.proofs.keys.Goals as goal

pub loop-i-init : goal.loop-i-init
loop-i-init c =
    record {
      keyed = λ known. nothing_told c.args.net.now.calls c.requires.keyless refl;
      beside = record { same_tickets = refl; same_parents = refl; same_nodes = refl; same_count = refl };
    }

pub loop-i-preserved : goal.loop-i-preserved
loop-i-preserved c = let sized : Sized c.args.net.now.plan = search rules in
    let same = c.loop-i.invariant.beside in
    record {
      keyed = λ known.
          tells_next _ c.loop-i.i _ (omega (arith, c.loop-i-test.true, c.requires.few)) (c.loop-i.invariant.keyed known)
          (c.key.ensures ∙ key_told c.args.net.now c.loop-i.i c.loop-i-test.true sized known);
      beside =
          record {
            same_tickets = same.same_tickets;
            same_parents = same.same_parents;
            same_nodes = same.same_nodes;
            same_count = same.same_count;
          };
    }
