-- `writing::put_nodes` meets its contract. The loop's invariant: the records of the nodes below n are put. Assumes nothing.
use Prim.Native.Nat.{◌<◌}
use native.Mathlib.Omega.{arith}
use mathlib.Core.Path.{refl, ◌∙◌}
use lib.ListN.{length}
use Rattle.writing.proofs.RecordPuts.{no_nodes, node_room, node_more, node_none}
use Rattle.writing.proofs.put_nodes.Goals as goal
use Rattle.writing.proofs.put_nodes.Goals.{then-place, else-place}

pub loop-n-init : goal.loop-n-init
loop-n-init c = (refl, no_nodes c.args.plan.now (omega (arith, c.requires)))

pub put_record-requires : goal.put_record-requires
put_record-requires c =
    let inside : c.loop-n.n < length c.args.plan.now.places = omega arith in
    node_room c.args.plan.now c.loop-n.n inside c.loop-n.invariant.1 c.if-place.true c.loop-n-test.true c.requires

pub loop-n-preserved : goal.loop-n-preserved
loop-n-preserved c =
    let plan = c.args.plan.now in
    let inside : c.loop-n.n < length plan.places = omega arith in
    elim c.if-place.branch [
      | then-place w ↦
          rw w.page-is
          (w.put_record.ensures.same_reference ∙ c.loop-n.invariant.0, node_more plan c.loop-n.n inside c.loop-n.invariant.1 w.if-place.true w.put_record.ensures.put)
      | else-place w ↦ rw w.page-is (c.loop-n.invariant.0, node_none plan c.loop-n.n inside c.loop-n.invariant.1 w.if-place.false)
    ]
