-- `tally::fill_rooms` meets its contract: whichever net the counts are of, the rooms of the sites before the loop's are told. Assumes nothing.
use mathlib.Core.Path.{◌≡◌}
use mathlib.Core.List.{List}
use lib.ListN.{length}
use Rattle.model.specs.Plan.{Record}
use Rattle.model.specs.Net.{Call}
use Rattle.tally.specs.Tally.{CanRoom}
use Rattle.tally.proofs.RoomLaws.{RoomsTo}
use Rattle.tally.proofs.fill_rooms.Given as goal

abbrev pub invariant-loop-site : goal.invariant-loop-site
invariant-loop-site l =
    (length l.rooms.left ≡ 1024) × ((rs : List Record) (cs : List Call) → CanRoom rs cs l.counts l.plan.threads → RoomsTo rs cs l.site l.rooms.left)
