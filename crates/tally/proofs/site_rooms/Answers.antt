-- `tally::site_rooms` meets its contract: whatever the counts, the levels that the loop has passed are lawful and their rooms are written. Assumes nothing.
use native.Mathlib.Omega.{arith}
use Prim.Native.Nat.{ℕ}
use mathlib.Core.Path.{refl, sym, subst, ◌∙◌}
use lib.ListN.{length-set}
use Rattle.std.specs.Prelude.{Option}
use Rattle.tally.specs.Tally.{SiteRoomed, left_in}
use Rattle.tally.proofs.SiteLaws.{from_top, not_lawful, from_next, site_lawful}
use Rattle.tally.proofs.site_rooms.Goals as goal

pub loop-k-init : goal.loop-k-init
loop-k-init c = record { fits = omega arith; long = refl; done = λ a ok. from_top ok _ }

pub returns-in_err-rooms : goal.returns-in_err-rooms
returns-in_err-rooms c = (
  c.loop-k.invariant.long,
  λ a ok.
      subst (λ (r : Option Unit). SiteRoomed c.args.threads a c.args.base c.args.rooms.now.left (left_in c.loop-k.rooms.left r)) (sym c.from_residual.ensures)
      (not_lawful ok (c.loop-k.invariant.done a ok) (omega arith) (omega (arith, c.requires.threads_most)) (omega arith) (omega (arith, c.in_err-rooms.ensures))),
)

pub loop-k-preserved : goal.loop-k-preserved
loop-k-preserved c = record {
  fits = omega (arith, c.in_ok-rooms.ensures.0, c.loop-k.invariant.fits, c.loop-k-test.true);
  long = length-set {A = ℕ} c.loop-k.rooms.left _ _ ∙ c.loop-k.invariant.long;
  done = λ a ok.
      from_next ok (c.loop-k.invariant.done a ok) (omega arith) (omega (arith, c.requires.threads_most)) (omega arith)
      (omega (arith, c.requires.rooms_inside, c.requires.threads_most, c.loop-k.invariant.long)) _ c.in_ok-rooms.ensures.0 c.in_ok-rooms.ensures.1;
}

pub returns : goal.returns
returns c = (
  c.loop-k.invariant.long,
  λ a ok. site_lawful ok (c.loop-k.invariant.done a ok) (omega (arith, c.loop-k-test.false)),
)
