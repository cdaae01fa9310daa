-- `tally::site_rooms` meets its contract: whatever the counts, the levels that the loop has passed are lawful and their rooms are written. Assumes nothing.
use Prim.Native.Nat.{ℕ, ◌+◌, ◌≤◌}
use mathlib.Core.Path.{◌≡◌}
use mathlib.Core.List.{List}
use lib.ListN.{length}
use Rattle.tally.specs.Tally.{SiteCounted}
use Rattle.tally.proofs.SiteLaws.{DoneFrom}
use Rattle.tally.proofs.site_rooms.Given as goal

abbrev pub invariant-loop-k : goal.invariant-loop-k
invariant-loop-k l =
    record {
      fits : l.above + l.k ≤ l.most;
      long : length l.rooms.left ≡ length l.initial.rooms.left;
      done : (a : List ℕ) → SiteCounted l.counts l.base l.most a → DoneFrom l.most a l.base l.k l.above l.initial.rooms.left l.rooms.left;
    }
