-- `runs::run` meets its contract. The loop's invariant: the run went some commands far, the arrays hold the net behind them and the text their lines. The
-- measure is the bytes left. Assumes nothing.
use Prim.Native.Nat.{◌+◌, ◌≤◌}
use mathlib.Core.Path.{refl, ◌∙◌}
use native.Mathlib.Omega.{arith}
use lib.ListN.{length}
use Rattle.text.specs.Room.{line_room}
use Rattle.text.proofs.PutLaws.{put_long}
use Rattle.runs.proofs.WentLaws.{begins, goes_on, behind_inside, count_inside}
use Rattle.runs.proofs.run.Goals as goal

pub loop-page-init : goal.loop-page-init
loop-page-init c = (refl, λ first run. begins run)

pub overflow_add-commands : goal.overflow_add-commands
overflow_add-commands c =
    let ok = c.requires in
    let stands = c.loop-page.invariant.1 ok.0 ok.1 in
    omega (arith, count_inside stands.went, behind_inside c.args.bytes.now c.loop-page.at c.in-Ok.found.0 c.in-Ok.found.1 c.in-Ok.ensures)

pub loop-page-smaller : goal.loop-page-smaller
loop-page-smaller c = omega (arith, behind_inside c.args.bytes.now c.loop-page.at c.in-Ok.found.0 c.in-Ok.found.1 c.in-Ok.ensures)

pub loop-page-preserved : goal.loop-page-preserved
loop-page-preserved c =
    let ok = c.requires in
    let written = (c.loop-page.invariant.1 ok.0 ok.1).written in
    let line_fits : c.loop-page.page.at + line_room ≤ length c.args.text.now = omega (arith, written.inside, put_long written, c.if-page-lt-LINE.false) in (
      c.turn.ensures.same_reference ∙ c.loop-page.invariant.0,
      λ first run.
          let here = c.loop-page.invariant.1 first run in
          goes_on c.loop-page.page c.turn.new.page _ _ here line_fits c.in-Ok.ensures (c.turn.ensures.turned here.net here.runs_on),
    )
