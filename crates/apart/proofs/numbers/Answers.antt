-- `apart::numbers` meets its contract: up to the place where the loop stands the arrays hold the first calls. Assumes nothing.
use native.Mathlib.Omega.{arith}
use mathlib.Core.Path.{refl}
use Rattle.apart.proofs.ApartLaws.{nothing_told, holding_more}
use Rattle.apart.proofs.numbers.Goals as goal

pub loop-i-init : goal.loop-i-init
loop-i-init c = let no = c.requires.nothing in
    record {
      holding =
          record {
            of_tickets = nothing_told c.args.net.now.calls no.tickets_table no.none_open;
            of_parents = nothing_told c.args.net.now.calls no.parents_table no.none_open;
            of_nodes = nothing_told c.args.net.now.calls no.nodes_table no.none_open;
          };
      keyless = refl;
    }

pub loop-i-preserved : goal.loop-i-preserved
loop-i-preserved c =
    record {
      holding = holding_more _ c.loop-i.i _ (omega (arith, c.loop-i-test.true, c.requires.few)) refl c.loop-i.invariant.holding;
      keyless = c.loop-i.invariant.keyless;
    }
