-- `writing::put_edges` meets its contract. The loop's invariant: the records of the first i edges are put. Assumes nothing.
use native.Mathlib.Omega.{arith}
use mathlib.Core.Path.{◌≡◌, refl, ap, ◌∙◌}
use Rattle.text.proofs.PutLaws.{put_as}
use Rattle.writing.specs.Writes.{edges_bytes}
use Rattle.writing.proofs.RecordPuts.{no_edges, edge_room, edge_more}
use Rattle.writing.proofs.put_edges.Goals as goal

pub loop-i-init : goal.loop-i-init
loop-i-init c = (refl, no_edges c.args.plan.now (omega (arith, c.requires.room)))

pub put_record-requires : goal.put_record-requires
put_record-requires c = edge_room c.args.plan.now c.loop-i.i c.loop-i.invariant.1 c.loop-i-test.true c.requires.room

pub loop-i-preserved : goal.loop-i-preserved
loop-i-preserved c = (c.put_record.ensures.same_reference ∙ c.loop-i.invariant.0, edge_more c.args.plan.now c.loop-i.i c.loop-i.invariant.1 c.put_record.ensures.put)

pub returns-clause-put : goal.returns-clause-put
returns-clause-put c = let plan = c.args.plan.now in
    let all : c.loop-i.i ≡ plan.edges = omega arith in
    put_as (ap (edges_bytes plan) all) c.loop-i.invariant.1
