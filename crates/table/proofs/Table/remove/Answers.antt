-- `Table::remove` meets its contract: behind the last number stood a zero, so that the zero at the end is one more place that moves up. Assumes nothing.
use Prim.Native.Nat.{◌+◌, ◌-◌}
use mathlib.Core.Path.{◌≡◌, refl}
use native.Mathlib.Omega.{arith}
use Rattle.table.proofs.GapLaws.{gap_turn, gap_end, gap_open, gap_closed}
use Rattle.table.proofs.Table.remove.Goals as goal

pub loop-i-init : goal.loop-i-init
loop-i-init c = (gap_open _ _, gap_open _ _, gap_open _ _, refl)

pub loop-i-preserved : goal.loop-i-preserved
loop-i-preserved c = let t = c.requires in
    let closed = c.loop-i.invariant in (
      gap_turn (omega arith) (omega (arith, t.tickets_table.whole, t.tickets_table.few, c.loop-i-test.true)) closed.0,
      gap_turn (omega arith) (omega (arith, t.parents_table.whole, t.parents_table.few, c.loop-i-test.true)) closed.1,
      gap_turn (omega arith) (omega (arith, t.keys_table.whole, t.keys_table.few, c.loop-i-test.true)) closed.2,
      closed.3,
    )

pub returns-clause-closed : goal.returns-clause-closed
returns-clause-closed c = let t = c.requires in
    let last : c.args.self.now.used - 1 + 1 ≡ c.args.self.now.used = omega arith in
    let nodes = c.copy_within.ensures in
    let closed = c.loop-i.invariant in
    record {
      of_tickets = gap_end t.tickets_table (omega arith) last (omega arith) closed.0;
      of_parents = gap_end t.parents_table (omega arith) last (omega arith) closed.1;
      of_keys = gap_end t.keys_table (omega arith) last (omega arith) closed.2;
      of_nodes = gap_closed closed.3 _ _ t.nodes_table t.taken last nodes.len nodes.by_index.0 nodes.by_index.1 nodes.by_index.2;
    }
