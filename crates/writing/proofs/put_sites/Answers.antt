-- `writing::put_sites` meets its contract. The loop's invariant: the records of the sites below s are put. Assumes nothing.
use native.Mathlib.Omega.{arith}
use mathlib.Core.Path.{refl, ◌∙◌}
use Rattle.writing.proofs.RecordPuts.{no_sites, site_room, site_more, site_none}
use Rattle.writing.proofs.put_sites.Goals as goal
use Rattle.writing.proofs.put_sites.Goals.{then-threads-ne0, else-threads-ne0}

pub loop-s-init : goal.loop-s-init
loop-s-init c = (refl, no_sites c.args.plan.now (omega arith))

pub put_record-requires : goal.put_record-requires
put_record-requires c =
    site_room c.args.plan.now c.loop-s.s c.loop-s.invariant.1 c.if-threads-ne0.true c.loop-s-test.true (omega (arith, c.requires))

pub loop-s-preserved : goal.loop-s-preserved
loop-s-preserved c =
    let s = c.loop-s.s in
    elim c.if-threads-ne0.branch [
      | then-threads-ne0 w ↦
          rw w.page-is
          (w.put_record.ensures.same_reference ∙ c.loop-s.invariant.0, site_more c.args.plan.now s c.loop-s.invariant.1 w.if-threads-ne0.true w.put_record.ensures.put)
      | else-threads-ne0 w ↦ rw w.page-is (c.loop-s.invariant.0, site_none c.args.plan.now s c.loop-s.invariant.1 w.if-threads-ne0.false)
    ]
