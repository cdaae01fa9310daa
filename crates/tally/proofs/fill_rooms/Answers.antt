-- `tally::fill_rooms` meets its contract: whichever net the counts are of, the rooms of the sites before the loop's are told. Assumes nothing.
use mathlib.Core.Path.{sym, subst, ◌∙◌}
use Rattle.std.specs.Prelude.{Option}
use Rattle.tally.specs.Tally.{RoomsTold}
use Rattle.tally.proofs.RoomLaws.{rooms_none, site_counted, site_roomable, rooms_more, rooms_end, rooms_all}
use Rattle.tally.proofs.fill_rooms.Goals as goal

pub loop-site-init : goal.loop-site-init
loop-site-init c = (c.requires.unlimited.whole, λ rs cs ok. rooms_none ok c.requires.unlimited)

pub site_rooms-requires : goal.site_rooms-requires
site_rooms-requires c = site_roomable c.requires.counted.2 c.loop-site.site c.loop-site-test.true _ c.loop-site.invariant.0

pub returns-in_err-site_rooms : goal.returns-in_err-site_rooms
returns-in_err-site_rooms c = λ rs cs ok.
    let s = c.loop-site.site in
    let inside = c.loop-site-test.true in
    subst (λ (r : Option Unit). RoomsTold rs cs c.site_rooms.new.rooms r) (sym c.from_residual.ensures)
    (rooms_end ok s inside c.loop-site.rooms.left (c.in_err-site_rooms.ensures.1 _ (site_counted ok s inside)))

pub loop-site-preserved : goal.loop-site-preserved
loop-site-preserved c = (
  c.in_ok-site_rooms.ensures.0 ∙ c.loop-site.invariant.0,
  λ rs cs ok.
      let s = c.loop-site.site in
      let inside = c.loop-site-test.true in
      rooms_more ok s inside (c.loop-site.invariant.1 rs cs ok) (c.in_ok-site_rooms.ensures.1 _ (site_counted ok s inside)),
)

pub returns : goal.returns
returns c = λ rs cs ok.
    rooms_all ok c.loop-site.site c.loop-site.invariant.0 c.loop-site-test.false c.loop-site.auto.site-end (c.loop-site.invariant.1 rs cs ok)
