-- The rooms of all sites, one site after the other: those of the sites before the loop's are told, and no other has a limit yet. Assumes nothing.
use Prim.Native.Nat.{ℕ, ◌+◌, ◌-◌, ◌*◌, ◌≤◌, ◌<◌}
use native.Mathlib.Omega.{arith}
use mathlib.Core.Path.{◌≡◌, sym, ap, subst, ◌∙◌}
use mathlib.Core.Logic.{⊎_elim}
use mathlib.Core.Bool.{true, false}
use Rattle.std.specs.Prelude.{Option, Some, None}
use mathlib.Core.List.{List}
use lib.ListN.{length, get_or}
use Rattle.ids.specs.Limits.{sites, most_threads}
use Rattle.lists.specs.Count.{every}
use Rattle.lists.specs.Fill.{Filled}
use Rattle.lists.proofs.CountLaws.{lt_or_ge, never_both, not_true_false, every_at, every-all}
use Rattle.model.specs.Site.{A, lawful}
use Rattle.model.specs.Plan.{Record, threads}
use Rattle.model.specs.Net.{Call, counts}
use Rattle.model.specs.NetRules.{all_lawful}
use Rattle.model.proofs.PlaceLaws.{threads_most}
use Rattle.model.proofs.AdmitLaws.{within}
use Rattle.rooms.specs.Rooms.{NoLimit}
use Rattle.rooms.specs.declared.Rooms.{Rooms}
use Rattle.moves.specs.Held.{room_byte, RoomsTell}
use Rattle.moves.proofs.RoomLaws.{byte_below, byte_above}
use Rattle.tally.specs.Tally.{SiteCounted, SiteRoomable, SiteRoomed, room_from, CanRoom}

-- the rooms of the sites below n
pub record RoomsTo (rs : List Record) (cs : List Call) (n : ℕ) (rooms : List ℕ) : Type 0 where
  pub lawful_to : (s : ℕ) → s < n → lawful (threads rs s) (counts rs cs s) ≡ true
  pub told_to : (s k : ℕ) → s < n → k < most_threads → get_or rooms (most_threads * s + k) 0 ≡ room_byte (threads rs s) (counts rs cs s) k
  pub open_beyond : (i : ℕ) → most_threads * n ≤ i → i < sites * most_threads → get_or rooms i 0 ≡ 255

module _ {rs : List Record} {cs : List Call} {numbers most-of : List ℕ} (ok : CanRoom rs cs numbers most-of) where
  pub rooms_none : {r : Rooms} → NoLimit r → RoomsTo rs cs 0 r.left
  rooms_none u =
      record {
        lawful_to = λ s h. absurd (omega arith);
        told_to = λ s k h l. absurd (omega arith);
        open_beyond = λ i low high. u.each i high;
      }

  module _ (s : ℕ) (inside : s < sites) where
    most_is : get_or most-of s 0 ≡ threads rs s
    most_is = ok.threads_are s inside

    pub site_counted : SiteCounted numbers (most_threads * s) (get_or most-of s 0) (counts rs cs s)
    site_counted =
        record {
          each = λ k h. ok.told.each s k inside h;
          none_above = ap (A (counts rs cs s)) most_is ∙ within rs ok.pass cs ok.known s;
        }

    pub site_roomable : (rooms : List ℕ) → length rooms ≡ sites * most_threads → SiteRoomable numbers (most_threads * s) (get_or most-of s 0) rooms
    site_roomable rooms long =
        record {
          inside = omega (arith, ok.told.whole);
          rooms_inside = omega arith;
          threads_most = omega (arith, most_is, threads_most rs ok.pass s);
        }

    abbrev Says : List ℕ → Option (List ℕ) → Type 0
    Says = SiteRoomed (get_or most-of s 0) (counts rs cs s) (most_threads * s)

    law_is : lawful (get_or most-of s 0) (counts rs cs s) ≡ lawful (threads rs s) (counts rs cs s)
    law_is = ap (λ (T : ℕ). lawful T (counts rs cs s)) most_is

    pub rooms_more : {old new : List ℕ} → RoomsTo rs cs s old → Says old (Some new) → RoomsTo rs cs (s + 1) new
    unfolding room_from
    rooms_more {old} {new} h says =
        record {
          lawful_to = λ t l.
              ⊎_elim (λ (p : t < s). h.lawful_to t p)
              (λ (p : s ≤ t).
              let same : s ≡ t = omega arith in
              subst (λ (u : ℕ). lawful (threads rs u) (counts rs cs u) ≡ true) same (sym law_is ∙ sym says.0))
              (lt_or_ge t s);
          told_to = λ t k l m.
              ⊎_elim
              (λ (p : t < s). filled.outside (most_threads * t + k) (λ a b. absurd (omega arith)) ∙ h.told_to t k p m)
              (λ (p : s ≤ t).
              let same : s ≡ t = omega arith in
              subst (λ (u : ℕ). get_or new (most_threads * u + k) 0 ≡ room_byte (threads rs u) (counts rs cs u) k) same (here k m))
              (lt_or_ge t s);
          open_beyond = λ i low high.
              filled.outside i (λ a b. absurd (omega (arith, most_is, threads_most rs ok.pass s))) ∙ h.open_beyond i (omega arith) high;
        }
      where
        filled : Filled (λ n. get_or most-of s 0 - (n - most_threads * s) - A (counts rs cs s) (n - most_threads * s)) (most_threads * s)
            (most_threads * s + get_or most-of s 0) old new
        filled = says.1

        here : (k : ℕ) → k < most_threads → get_or new (most_threads * s + k) 0 ≡ room_byte (threads rs s) (counts rs cs s) k
        here k m =
            ⊎_elim
            (λ (p : k < threads rs s).
            let level : most_threads * s + k - most_threads * s ≡ k = omega arith in
            omega (
              arith,
              filled.inside (most_threads * s + k) (omega arith) (omega (arith, most_is)),
              byte_below (threads rs s) (counts rs cs s) k p,
              ap (A (counts rs cs s)) level,
              most_is,
            ))
            (λ (p : threads rs s ≤ k).
            filled.outside (most_threads * s + k) (λ a b. absurd (omega (arith, most_is)))
            ∙ h.open_beyond (most_threads * s + k) (omega arith) (omega arith)
            ∙ sym (byte_above (threads rs s) (counts rs cs s) k p))
            (lt_or_ge k (threads rs s))

    -- a site that is not lawful ends it
    pub rooms_end : (old : List ℕ) → Says old None → false ≡ all_lawful (record { plan = rs; calls = cs })
    unfolding all_lawful
    rooms_end old says =
        sym
        (not_true_false (every sites (λ t. lawful (threads rs t) (counts rs cs t)))
        (λ q. never_both (every_at sites (λ t. lawful (threads rs t) (counts rs cs t)) q s inside) (sym law_is ∙ sym says)))

  pub rooms_all : {rooms : Rooms} (n : ℕ) → length rooms.left ≡ sites * most_threads → sites ≤ n → n ≤ sites → RoomsTo rs cs n rooms.left
      → (true ≡ all_lawful (record { plan = rs; calls = cs })) × RoomsTell rs (counts rs cs) rooms.left
  unfolding all_lawful
  rooms_all n long low high h = (
    sym (every-all sites (λ s. lawful (threads rs s) (counts rs cs s)) (λ s l. h.lawful_to s (omega arith))),
    record { whole = long; each = λ s k l m. h.told_to s k (omega arith) m },
  )
