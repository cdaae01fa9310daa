-- What the questions answer, by what they find: who is found by a ticket, and the smallest of the rooms up to a level. Assumes nothing.
use Prim.Native.Nat.{ℕ, ◌*◌, ◌≤◌, ◌<◌}
use native.Mathlib.Omega.{arith}
use mathlib.Core.Path.{◌≡◌, refl, ap, ◌∙◌}
use mathlib.Core.Logic.{⊎_elim}
use mathlib.Core.Bool.{Bool, true, false, not, ◌&&◌, cond}
use mathlib.Core.List.{List}
use mathlib.Core.Option.{none, some}
use lib.ListN.{get_or}
use lib.Dec.{eqb}
use borrow.Author.Tests.{ne_eqb, lt-ltb, le-ltb}
use Rattle.ids.specs.Limits.{sites, most_threads}
use Rattle.lists.proofs.CountLaws.{lt_or_ge}
use Rattle.lists.specs.Count.{smallest}
use Rattle.model.specs.Plan.{Record, threads, six, passes}
use Rattle.model.specs.Net.{Call, Core, lookup, counts}
use Rattle.model.specs.Command.{ask, Roomed, room_refused, room_at}
use Rattle.model.proofs.RecordLaws.{threads-listed, passes_ok}
use Rattle.model.proofs.PlaceLaws.{threads_most}
use Rattle.model.proofs.CountsLaws.{counts-length}
use Rattle.rooms.specs.Rooms.{room_in, Ranged}
use Rattle.moves.proofs.RoomLaws.{rooms_smallest}
use Rattle.text.specs.Lines.{a_letter, a_refusal, a_number, of_standing, of_room}
use Rattle.steps.specs.Running.{RoomSeen}

-- A ticket

module _ (net : Core) (ticket : ℕ) where
  pub asked_nobody : lookup net.calls ticket ≡ none → a_letter 78 ≡ of_standing (ask net ticket)
  unfolding ask
  asked_nobody e = rw e

  pub asked_waiting : (c : Call) → lookup net.calls ticket ≡ some c → c.active ≡ false → a_letter 87 ≡ of_standing (ask net ticket)
  unfolding ask
  asked_waiting c e waits = rw (e, waits)

  pub asked_running : (c : Call) → lookup net.calls ticket ≡ some c → c.active ≡ true → a_letter 65 ≡ of_standing (ask net ticket)
  unfolding ask
  asked_running c e runs = rw (e, runs)

-- A room

-- a number that is none of the sites' has no threads
pub threads-nowhere : (rs : List Record) → passes six rs ≡ true → (s : ℕ) → sites ≤ s → threads rs s ≤ 0
threads-nowhere rs pass s past =
    ⊎_elim
    (λ (p : 0 < threads rs s).
    let w = (passes_ok six rs pass).site_range s (threads rs s) (threads-listed rs s (λ z. omega arith)) in
    absurd (omega (arith, w.0)))
    (λ (p : threads rs s ≤ 0). p)
    (lt_or_ge 0 (threads rs s))

module _ {net : Core} {rooms most-of : List ℕ} (seen : RoomSeen net rooms most-of) (site level : ℕ) where
  no_level : threads net.plan site ≤ level → a_refusal 30 ≡ of_room (room_at net site level)
  unfolding room_at
  no_level high = rw (le-ltb level (threads net.plan site) high) (go (not (eqb (threads net.plan site) 0)) _)
    where
      go : (b : Bool) (r : Roomed) → a_refusal 30 ≡ of_room (cond (b && false) r (room_refused 30))
      go true r = refl
      go false r = refl

  pub no_site : sites ≤ site → a_refusal 30 ≡ of_room (room_at net site level)
  no_site past = no_level (omega (arith, threads-nowhere net.plan seen.pass site past))

  module _ (inside : site < sites) where
    pub too_high : get_or most-of site 0 ≤ level → a_refusal 30 ≡ of_room (room_at net site level)
    too_high high = no_level (omega (arith, seen.staffed.each site inside))

    module _ (low : level < get_or most-of site 0) where
      under : level < threads net.plan site
      under = omega (arith, seen.staffed.each site inside)

      level_small : level < most_threads
      level_small = omega (arith, under, threads_most net.plan seen.pass site)

      pub room-ranged : Ranged rooms (most_threads * site) level
      room-ranged = record { inside = omega (arith, seen.of_rooms.whole); level_small = level_small }

      pub room_there : (n : ℕ) → n ≡ smallest level (room_in rooms (most_threads * site)) → a_number n ≡ of_room (room_at net site level)
      unfolding room_at
      room_there n e =
          let T = threads net.plan site in
          rw (ne_eqb T 0 (λ z. omega (arith, under)), lt-ltb level T under)
          (ap a_number
          (e
          ∙ rooms_smallest net.plan (counts net.plan net.calls) rooms seen.of_rooms site inside (threads_most net.plan seen.pass site)
          (seen.law site) (omega (arith, threads_most net.plan seen.pass site, counts-length net.plan site net.calls)) level under))
