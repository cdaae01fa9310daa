-- What `moves::serve` does to the arrays: the first key between the site's place and its limit is that of the oldest call that may be admitted; it becomes 0,
-- and the rooms of that call's level and below lose one. Assumes nothing.
use Prim.Native.Nat.{ℕ, ◌+◌, ◌-◌, ◌*◌, ◌<◌}
use native.Mathlib.Omega.{arith}
use mathlib.Core.Path.{◌≡◌, refl, sym, ap, subst, ◌∙◌}
use mathlib.Core.Bool.{Bool, cond}
use mathlib.Core.List.{List}
use mathlib.Core.Option.{Option as Maybe, none, some}
use lib.ListN.{length, get_or, set}
use borrow.Author.Tests.{eq-eqb, ne_eqb}
use Rattle.std.specs.Prelude.{Option, Some, None}
use Rattle.ids.specs.Limits.{most_threads, most_open}
use Rattle.lists.specs.Count.{first}
use Rattle.lists.specs.Fill.{Filled, renewed}
use Rattle.lists.specs.Pick.{any, first_place}
use Rattle.lists.proofs.PickLaws.{changed_none, length-changed}
use Rattle.lists.proofs.TellLaws.{place_inside, any_found, any_not_found}
use Rattle.model.specs.Site.{raised}
use Rattle.model.specs.Plan.{Record}
use Rattle.model.specs.Net.{Call, site_of, level_of, ticket_of, is_on, counts, may_wake, to_wake, activated, woken}
use Rattle.model.proofs.PlaceLaws.{threads_most, level_small}
use Rattle.model.proofs.CountsLaws.{more, counts-woken}
use Rattle.model.proofs.FirmLaws.{to_wake_fits, woken_firm}
use Rattle.table.specs.Places.{between}
use Rattle.rooms.specs.Rooms.{no_room, one_less, Taking}
use Rattle.moves.specs.Held.{Arrays, arrays, Held, Placed, CanServe, key_of, served_told, ticket_given}
use Rattle.moves.proofs.RoomLaws.{rooms-taken}
use Rattle.moves.proofs.TableLaws.{tells_changed, tells_blind, told_there}
use Rattle.moves.proofs.WakeLaws.{waiter_is}
use Rattle.moves.proofs.OpenLaws.{site_limit, take_fits, level_under, level_long}

-- whom a return finds at a place of the table, or nobody
pub data Wakes (rs : List Record) (cs : List Call) (site at : ℕ) : Type 0 where
  nobody : to_wake rs cs site ≡ none → at ≡ most_open → Wakes rs cs site at
  somebody : (d : Call) → to_wake rs cs site ≡ some d → at ≡ first_place (may_wake rs cs site) cs → at < length cs → Wakes rs cs site at

module _ {rs : List Record} {cs : List Call} {a : Arrays} {used site most : ℕ} (ok : CanServe rs cs a used site most) where
  pub wakes : (limit at : ℕ) → limit ≡ first most (no_room a.rooms (most_threads * site))
      → at ≡ first most_open (between a.keys (most_threads * site) (most_threads * site + limit)) → Wakes rs cs site at
  unfolding to_wake
  wakes limit at e q = go (to_wake rs cs site) refl
    where
      where_is : at ≡ cond (any (may_wake rs cs site) cs) (first_place (may_wake rs cs site) cs) most_open
      where_is =
          q
          ∙ ap (λ (l : ℕ). first most_open (between a.keys (most_threads * site) (most_threads * site + l)))
          (e ∙ site_limit ok.held ok.site_inside ok.threads_are)
          ∙ waiter_is rs cs ok.held.firm ok.held.of_keys site

      go : (o : Maybe Call) → to_wake rs cs site ≡ o → Wakes rs cs site at
      go none h = nobody h (where_is ∙ ap (λ (b : Bool). cond b (first_place (may_wake rs cs site) cs) most_open) (any_not_found (may_wake rs cs site) cs h))
      go (some d) h =
          let here : at ≡ first_place (may_wake rs cs site) cs =
          where_is ∙ ap (λ (b : Bool). cond b (first_place (may_wake rs cs site) cs) most_open) (any_found (may_wake rs cs site) cs d h)
          in
          somebody d h here (omega (arith, place_inside (may_wake rs cs site) cs d h))

  pub nobody_woken : to_wake rs cs site ≡ none → Held rs (woken rs cs site) a used
  unfolding to_wake woken
  nobody_woken e = subst (λ (ds : List Call). Held rs ds a used) (sym (changed_none activated (may_wake rs cs site) cs e)) ok.held

  -- the one that is woken
  module _ (d : Call) (at : ℕ) (chosen : to_wake rs cs site ≡ some d) (here : at ≡ first_place (may_wake rs cs site) cs) where
    abbrev level : ℕ
    level = level_of rs d.node

    pub placed : Placed rs d.node site level most
    placed =
        let w = to_wake_fits rs cs ok.held.firm site d chosen in
        record { known = ok.held.firm.known d w.0; site_is = sym w.1; level_is = refl; threads_are = ok.threads_are }

    pub key_is : get_or a.keys at 0 ≡ most_threads * site + level + 1
    unfolding to_wake key_of
    key_is =
        let w = to_wake_fits rs cs ok.held.firm site d chosen in
        told_there (may_wake rs cs site) d at ok.held.of_keys chosen here
        ∙ ap (λ (b : Bool). cond b 0 (most_threads * site_of rs d.node + level + 1)) w.2
        ∙ ap (λ (s : ℕ). most_threads * s + level + 1) w.1

    pub ticket_is : get_or a.tickets at 0 ≡ d.ticket
    unfolding to_wake
    ticket_is = told_there (may_wake rs cs site) d at ok.held.of_tickets chosen here

    pub wake_takes : Taking a.rooms (most_threads * site) level
    wake_takes = take_fits ok.held placed (to_wake_fits rs cs ok.held.firm site d chosen).3

    counts_here : counts rs (woken rs cs site) site ≡ raised (counts rs cs site) level
    unfolding to_wake woken is_on
    counts_here =
        let w = to_wake_fits rs cs ok.held.firm site d chosen in
        counts-woken rs site ok.held.firm.pass (may_wake rs cs site) cs d chosen w.2
        ∙ ap (λ (b : Bool). more b (counts rs cs site) level) (eq-eqb (site_of rs d.node) site w.1)

    counts_there : (s : ℕ) → (s ≡ site → ⊥) → counts rs (woken rs cs site) s ≡ counts rs cs s
    unfolding to_wake woken is_on
    counts_there s apart =
        let w = to_wake_fits rs cs ok.held.firm site d chosen in
        counts-woken rs s ok.held.firm.pass (may_wake rs cs site) cs d chosen w.2
        ∙ ap (λ (b : Bool). more b (counts rs cs s) level) (ne_eqb (site_of rs d.node) s (λ q. apart (sym q ∙ w.1)))

    pub woken-held : (rooms : List ℕ) → Filled (renewed one_less a.rooms) (most_threads * site) (most_threads * site + (level + 1)) a.rooms rooms
        → Held rs (woken rs cs site) (arrays a.tickets a.parents (set a.keys at 0) a.nodes rooms) used
    unfolding to_wake woken key_of
    woken-held rooms filled =
        let h = ok.held in
        record {
          of_tickets = tells_blind activated (may_wake rs cs site) (λ c. refl) h.of_tickets;
          of_parents = tells_blind activated (may_wake rs cs site) (λ c. refl) h.of_parents;
          of_keys = tells_changed activated (may_wake rs cs site) d at 0 h.of_keys h.firm.few chosen here refl;
          of_nodes = tells_blind activated (may_wake rs cs site) (λ c. refl) h.of_nodes;
          of_rooms =
              rooms-taken rs (counts rs cs) a.rooms h.of_rooms site ok.site_inside (threads_most rs h.firm.pass site) level
              (level_under h placed) (level_long h placed) rooms (counts rs (woken rs cs site)) filled counts_there counts_here;
          count = h.count ∙ sym (length-changed activated (may_wake rs cs site) cs);
          firm = woken_firm rs cs h.firm site;
        }

-- What the search's answer says, for the function's stations

module _ {rs : List Record} {cs : List Call} {a : Arrays} {used site most : ℕ} (ok : CanServe rs cs a used site most) (base limit at : ℕ)
    (base_is : base ≡ most_threads * site) (limit_is : limit ≡ first most (no_room a.rooms (most_threads * site)))
    (at_is : at ≡ first most_open (between a.keys base (base + limit))) where
  whom : Wakes rs cs site at
  whom = wakes ok limit at limit_is (at_is ∙ ap (λ (b : ℕ). first most_open (between a.keys b (b + limit))) base_is)

  -- the level that the key tells
  abbrev chosen_level : ℕ
  chosen_level = get_or a.keys at 0 - base - 1

  pub record Chosen : Type 0 where
    pub who : Call
    pub chosen : to_wake rs cs site ≡ some who
    pub here : at ≡ first_place (may_wake rs cs site) cs
    pub key_told : get_or a.keys at 0 ≡ most_threads * site + level_of rs who.node + 1
    pub level_told : level_of rs who.node ≡ chosen_level
    pub small : level_of rs who.node < most_threads

  pub chosen-one : at < most_open → Chosen
  chosen-one some-place = go whom
    where
      go : Wakes rs cs site at → Chosen
      go (nobody e q) = absurd (omega arith)
      go (somebody d e q inside) =
          let told = key_is ok d at e q in
          record {
            who = d;
            chosen = e;
            here = q;
            key_told = told;
            level_told = omega (arith, base_is);
            small = level_small rs ok.held.firm.pass d.node;
          }

  pub chosen_takes : Chosen → Taking a.rooms (most_threads * site) chosen_level
  chosen_takes w = subst (Taking a.rooms (most_threads * site)) w.level_told (wake_takes ok w.who at w.chosen w.here)

  pub served : Chosen → (rooms : List ℕ) → Filled (renewed one_less a.rooms) (most_threads * site) (most_threads * site + (chosen_level + 1)) a.rooms rooms
      → (Some (get_or a.tickets at 0) ≡ ticket_given (to_wake rs cs site))
      × Held rs (woken rs cs site) (arrays a.tickets a.parents (set a.keys at 0) a.nodes rooms) used
  served w rooms filled = (
    ap Some (ticket_is ok w.who at w.chosen w.here) ∙ sym (ap ticket_given w.chosen),
    woken-held ok w.who at w.chosen w.here rooms
        (subst (λ (l : ℕ). Filled (renewed one_less a.rooms) (most_threads * site) (most_threads * site + (l + 1)) a.rooms rooms)
        (sym w.level_told) filled),
  )

  pub unserved : at ≡ most_open → (None ≡ ticket_given (to_wake rs cs site)) × Held rs (woken rs cs site) a used
  unserved e = go whom
    where
      go : Wakes rs cs site at → (None ≡ ticket_given (to_wake rs cs site)) × Held rs (woken rs cs site) a used
      go (nobody q r) = (sym (ap ticket_given q), nobody_woken ok q)
      go (somebody d q r inside) = absurd (omega (arith, ok.held.firm.few))

-- the answer as a ticket's word, as a return prints it
pub given_told : {answered : Option ℕ} (o : Maybe Call) → answered ≡ ticket_given o → served_told answered ≡ ticket_of o
given_told none e = ap served_told e
given_told (some c) e = ap served_told e
