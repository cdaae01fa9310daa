-- What a call that leaves does to the arrays: the gap at its place closes, and where it was active the rooms of its level and below gain one.
-- Assumes nothing.
use Prim.Native.Nat.{ℕ, ◌+◌, ◌-◌, ◌*◌, ◌<◌}
use native.Mathlib.Omega.{arith}
use mathlib.Core.Path.{◌≡◌, sym, ap, ◌∙◌}
use mathlib.Core.Bool.{Bool, true, ◌&&◌}
use mathlib.Core.List.{List}
use lib.ListN.{length}
use borrow.Author.Tests.{eq-eqb, ne_eqb}
use Rattle.ids.specs.Limits.{sites, most_threads}
use Rattle.lists.specs.Fill.{Filled, renewed}
use Rattle.lists.specs.Pick.{first_place}
use Rattle.lists.proofs.PickLaws.{found_in, length_without}
use Rattle.lists.proofs.TellLaws.{place_inside}
use Rattle.model.specs.Site.{raised}
use Rattle.model.specs.Plan.{Record, threads}
use Rattle.model.specs.Net.{Call, has_node, site_of, level_of, has, is_on, active_on, counts, closed}
use Rattle.model.specs.Steady.{Firm, Leaver, Withdrawn}
use Rattle.model.proofs.PlaceLaws.{threads_most, site_small, level_small, level_below-threads}
use Rattle.model.proofs.CountsLaws.{more, counts-length, counts-closed}
use Rattle.model.proofs.FirmLaws.{ending_leaves, withdrawn_leaves, closed_firm}
use Rattle.model.proofs.SettledLaws.{counts_withdrawn}
use Rattle.table.specs.declared.Table.{Table}
use Rattle.table.specs.Places.{Gap, Closings}
use Rattle.rooms.specs.Rooms.{one_more, Giving}
use Rattle.moves.specs.Held.{arrays, RoomsTell, room_byte, Held, CanClose}
use Rattle.moves.proofs.RoomLaws.{giving, rooms-given}
use Rattle.moves.proofs.TableLaws.{tells_table, tells_closed}

-- A call that leaves: the gap at its place closes

module _ {rs : List Record} {cs : List Call} {ticket : ℕ} {gone : Call} (t : Table) {left : List ℕ}
    (held : Held rs cs (arrays t.tickets t.parents t.keys t.nodes left) t.used) (leaver : Leaver cs ticket gone) (at : ℕ) (place : at ≡ first_place (has ticket) cs) where
  pub at_inside : at < t.used
  at_inside = omega (arith, place, held.count, place_inside (has ticket) cs gone leaver.stands)

  pub gap : Gap t at
  gap =
      let few = held.firm.few in
      let count = held.count in
      record {
        tickets_table = tells_table held.of_tickets count few;
        parents_table = tells_table held.of_parents count few;
        keys_table = tells_table held.of_keys count few;
        nodes_table = tells_table held.of_nodes count few;
        taken = at_inside;
      }

  fewer_used : t.used - 1 ≡ length (closed cs ticket)
  unfolding closed
  fewer_used = omega (arith, held.count, length_without (has ticket) cs gone leaver.stands)

  pub shut_held : {new : Table} {rooms : List ℕ} → Closings at t.used t new → RoomsTell rs (counts rs (closed cs ticket)) rooms → Firm rs (closed cs ticket)
      → Held rs (closed cs ticket) (arrays new.tickets new.parents new.keys new.nodes rooms) (t.used - 1)
  unfolding closed
  shut_held shut of_rooms firm =
      record {
        of_tickets = tells_closed (has ticket) at t.used held.of_tickets held.count place shut.of_tickets;
        of_parents = tells_closed (has ticket) at t.used held.of_parents held.count place shut.of_parents;
        of_keys = tells_closed (has ticket) at t.used held.of_keys held.count place shut.of_keys;
        of_nodes = tells_closed (has ticket) at t.used held.of_nodes held.count place shut.of_nodes;
        of_rooms = of_rooms;
        count = fewer_used;
        firm = firm;
      }

-- A call that ends: the rooms of its level and below gain one

module _ {rs : List Record} {cs : List Call} {ticket : ℕ} {gone : Call} (t : Table) {left : List ℕ} {at site level : ℕ}
    (ok : CanClose rs cs ticket gone (arrays t.tickets t.parents t.keys t.nodes left) t.used at site level) where
  known : has_node rs gone.node ≡ true
  known = ok.held.firm.known gone (found_in (has ticket) cs gone ok.ending.stands).0

  pub site_inside : site < sites
  site_inside = omega (arith, ok.site_is, site_small rs ok.held.firm.pass gone.node known)

  counts_before : (s : ℕ) → counts rs cs s ≡ more (active_on rs s gone) (counts rs (closed cs ticket) s) (level_of rs gone.node)
  unfolding closed
  counts_before s = counts-closed rs s ok.held.firm.pass (has ticket) cs gone ok.ending.stands

  had_one_more : counts rs cs site ≡ raised (counts rs (closed cs ticket) site) level
  unfolding active_on is_on
  had_one_more =
      counts_before site
      ∙ ap (λ (b : Bool). more (b && gone.active) (counts rs (closed cs ticket) site) (level_of rs gone.node))
      (eq-eqb (site_of rs gone.node) site (sym ok.site_is))
      ∙ ap (λ (b : Bool). more b (counts rs (closed cs ticket) site) (level_of rs gone.node)) ok.ending.runs
      ∙ ap (raised (counts rs (closed cs ticket) site)) (sym ok.level_is)

  others_same : (s : ℕ) → (s ≡ site → ⊥) → counts rs (closed cs ticket) s ≡ counts rs cs s
  unfolding active_on is_on
  others_same s apart =
      sym (counts_before s
      ∙ ap (λ (b : Bool). more (b && gone.active) (counts rs (closed cs ticket) s) (level_of rs gone.node))
      (ne_eqb (site_of rs gone.node) s (λ q. apart (sym q ∙ sym ok.site_is))))

  level_under : level < threads rs site
  level_under =
      omega (arith, level_below-threads rs ok.held.firm.pass gone.node known, ok.level_is, ap (threads rs) ok.site_is)

  level_long : level < length (counts rs (closed cs ticket) site)
  level_long = omega (arith, ok.level_is, level_small rs ok.held.firm.pass gone.node, counts-length rs site (closed cs ticket))

  pub give_fits : Giving left (most_threads * site) level
  give_fits =
      giving rs (counts rs cs) left ok.held.of_rooms site site_inside (threads_most rs ok.held.firm.pass site)
      (counts rs (closed cs ticket)) level level_under level_long (ok.held.firm.law site) had_one_more

  pub closed-held : {new : Table} {rooms : List ℕ} → Closings at t.used t new → Filled (renewed one_more left) (most_threads * site) (most_threads * site + (level + 1)) left rooms
      → Held rs (closed cs ticket) (arrays new.tickets new.parents new.keys new.nodes rooms) (t.used - 1)
  closed-held {rooms = rooms} shut filled =
      let h = ok.held in
      let given =
      rooms-given rs (counts rs cs) left h.of_rooms site site_inside (threads_most rs h.firm.pass site)
      (counts rs (closed cs ticket)) level level_under level_long (h.firm.law site) had_one_more rooms filled others_same
      in
      let leaver = ending_leaves ok.ending in
      shut_held t h leaver at ok.place shut given (closed_firm rs cs h.firm ticket gone leaver)

-- A call that is taken back: no room changes, since it was not counted

pub withdrawn_held : {rs : List Record} {cs : List Call} {ticket : ℕ} {gone : Call} (t : Table) {left : List ℕ}
    → Held rs cs (arrays t.tickets t.parents t.keys t.nodes left) t.used → Withdrawn cs ticket gone → (at : ℕ) → at ≡ first_place (has ticket) cs
    → {new : Table} → Closings at t.used t new → Held rs (closed cs ticket) (arrays new.tickets new.parents new.keys new.nodes left) (t.used - 1)
withdrawn_held {rs} {cs} {ticket} {gone} t {left} h end at place shut =
    let leaver = withdrawn_leaves h.firm end in
    shut_held t h leaver at place shut (rooms_same (counts_withdrawn rs cs h.firm ticket gone end) h.of_rooms)
    (closed_firm rs cs h.firm ticket gone leaver)
  where
    rooms_same : ((s : ℕ) → counts rs (closed cs ticket) s ≡ counts rs cs s) → RoomsTell rs (counts rs cs) left
        → RoomsTell rs (counts rs (closed cs ticket)) left
    rooms_same same told =
        record {
          whole = told.whole;
          each = λ s k hs hk. told.each s k hs hk ∙ ap (λ (l : List ℕ). room_byte (threads rs s) l k) (sym (same s));
        }
