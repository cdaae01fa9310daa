-- No waiting call may be admitted: exactly where no site has a waiter below its limit. A call that could go waits at its own site. Assumes nothing.
use Prim.Native.Nat.{ℕ, ◌+◌, ◌*◌, ◌≤◌, ◌<◌}
use native.Mathlib.Omega.{arith}
use mathlib.Core.Path.{◌≡◌, refl, sym, ap, subst, ◌∙◌}
use mathlib.Core.Logic.{◌⊎◌, inl, inr, ⊎_elim}
use mathlib.Core.Bool.{Bool, true, false, not, cond, ◌&&◌}
use mathlib.Core.List.{List}
use lib.ListN.{get_or}
use lib.Dec.{eqb}
use Rattle.std.specs.Prelude.{Option, Some, None}
use Rattle.std.specs.Option.{is_some}
use borrow.Author.Tests.{eqb-true, eq-eqb}
use Rattle.ids.specs.Limits.{sites, most_threads, most_open}
use Rattle.lists.specs.Count.{first}
use Rattle.lists.specs.Pick.{all, any, first_place}
use Rattle.lists.proofs.CountLaws.{lt_or_ge, never_both, not_true_false, denied, true_or_false, and_left, and_right, and_both}
use Rattle.lists.proofs.PickLaws.{all_at, all-each, any_some, any_none, found_some}
use Rattle.lists.proofs.TellLaws.{place_inside}
use Rattle.model.specs.Plan.{Record, threads}
use Rattle.model.specs.Net.{Call, site_of, is_on, waits_on, counts, admissible, limit_at, may_wake}
use Rattle.model.specs.NetRules.{could_go}
use Rattle.model.proofs.PlaceLaws.{threads_most, site_small, level_below-threads}
use Rattle.rooms.specs.Rooms.{no_room, Limited}
use Rattle.table.specs.Places.{between, Padded, Found}
use Rattle.moves.proofs.RoomLaws.{limited, rooms_limit}
use Rattle.moves.proofs.TableLaws.{tells_table}
use Rattle.moves.proofs.WakeLaws.{waiter_is}
use Rattle.rules.specs.Rules.{SettledSeen}

-- nobody could be woken at the sites below a number
abbrev pub AsleepTo : List Record → List Call → ℕ → Type 0
AsleepTo rs cs n = (s : ℕ) → s < n → any (may_wake rs cs s) cs ≡ false

-- a call that could go may be woken at its own site, and only one that could go may be woken
wakes_there : (rs : List Record) (cs : List Call) (c : Call) → could_go rs cs c ≡ true → may_wake rs cs (site_of rs c.node) c ≡ true
unfolding could_go may_wake waits_on is_on
wakes_there rs cs c e =
    and_both (eqb (site_of rs c.node) (site_of rs c.node) && not c.active) (admissible rs cs c.node)
    (and_both (eqb (site_of rs c.node) (site_of rs c.node)) (not c.active) (eq-eqb (site_of rs c.node) (site_of rs c.node) refl)
    (and_left (not c.active) (admissible rs cs c.node) e))
    (and_right (not c.active) (admissible rs cs c.node) e)

wakes_could : (rs : List Record) (cs : List Call) (s : ℕ) (c : Call) → may_wake rs cs s c ≡ true → could_go rs cs c ≡ true
unfolding could_go may_wake waits_on is_on
wakes_could rs cs s c e =
    and_both (not c.active) (admissible rs cs c.node)
    (and_right (eqb (site_of rs c.node) s) (not c.active) (and_left (eqb (site_of rs c.node) s && not c.active) (admissible rs cs c.node) e))
    (and_right (eqb (site_of rs c.node) s && not c.active) (admissible rs cs c.node) e)

module _ {rs : List Record} {cs : List Call} {keys rooms : List ℕ} {used : ℕ} {most-of : List ℕ} (ok : SettledSeen rs cs keys rooms used most-of) where
  pub keys_table : Padded keys used
  keys_table = tells_table ok.of_keys ok.count ok.firm.few

  module _ (s : ℕ) (inside : s < sites) where
    most_is : get_or most-of s 0 ≡ threads rs s
    most_is = ok.threads_are s inside

    pub site_limited : Limited rooms (most_threads * s) (get_or most-of s 0)
    site_limited =
        subst (Limited rooms (most_threads * s)) (sym most_is) (limited rs (counts rs cs) rooms ok.of_rooms s inside (threads_most rs ok.firm.pass s))

    module _ (limit : ℕ) (limit_is : limit ≡ first (get_or most-of s 0) (no_room rooms (most_threads * s))) where
      its-limit : limit ≡ limit_at rs cs s
      unfolding limit_at
      its-limit =
          limit_is
          ∙ ap (λ (T : ℕ). first T (no_room rooms (most_threads * s))) most_is
          ∙ rooms_limit rs (counts rs cs) rooms ok.of_rooms s inside (threads_most rs ok.firm.pass s) (ok.firm.law s)

      module _ (at : ℕ) (at_is : at ≡ first most_open (between keys (most_threads * s) (most_threads * s + limit))) where
        waiter-at : at ≡ cond (any (may_wake rs cs s) cs) (first_place (may_wake rs cs s) cs) most_open
        waiter-at =
            at_is
            ∙ ap (λ (l : ℕ). first most_open (between keys (most_threads * s) (most_threads * s + l))) its-limit
            ∙ waiter_is rs cs ok.firm ok.of_keys s

        pub nobody-there : at ≡ most_open → any (may_wake rs cs s) cs ≡ false
        nobody-there e = not_true_false (any (may_wake rs cs s) cs) (λ q. absurd (below q))
          where
            below : any (may_wake rs cs s) cs ≡ true → ⊥
            below q =
                let here : at ≡ first_place (may_wake rs cs s) cs =
                waiter-at ∙ ap (λ (b : Bool). cond b (first_place (may_wake rs cs s) cs) most_open) q
                in
                let w = any_some (may_wake rs cs s) cs q in
                let z = found_some (may_wake rs cs s) cs w.0 w.1 w.2 in
                absurd (omega (arith, place_inside (may_wake rs cs s) cs z.0 z.1, ok.firm.few))

        pub somebody-there : (at ≡ most_open → ⊥) → false ≡ all (λ c. not (could_go rs cs c)) cs
        somebody-there ne = sym (not_true_false (all (λ c. not (could_go rs cs c)) cs) (λ q. go (true_or_false (any (may_wake rs cs s) cs)) q))
          where
            go : (any (may_wake rs cs s) cs ≡ true) ⊎ (any (may_wake rs cs s) cs ≡ false) → all (λ c. not (could_go rs cs c)) cs ≡ true → ⊥
            go (inl e) q =
                let w = any_some (may_wake rs cs s) cs e in
                let stays = all_at (λ c. not (could_go rs cs c)) cs q w.0 w.1 in
                never_both (wakes_could rs cs s w.0 w.2) (denied (could_go rs cs w.0) (could_go rs cs w.0) refl stays)
            go (inr e) q = ne (waiter-at ∙ ap (λ (b : Bool). cond b (first_place (may_wake rs cs s) cs) most_open) e)

      -- what the search answers

      pub nobody-found : (base : ℕ) → base ≡ most_threads * s → (o : Option ℕ) → Found o (between keys base (base + limit)) → false ≡ is_some o
          → any (may_wake rs cs s) cs ≡ false
      nobody-found base here None found e =
          nobody-there most_open (subst (λ (b : ℕ). most_open ≡ first most_open (between keys b (b + limit))) here found) refl
      nobody-found base here (Some at) found e = absurd (never_both {b = true} refl (sym e))

      pub somebody-found : (base : ℕ) → base ≡ most_threads * s → (o : Option ℕ) → Found o (between keys base (base + limit)) → true ≡ is_some o
          → false ≡ all (λ c. not (could_go rs cs c)) cs
      somebody-found base here None found e = absurd (never_both {b = true} refl e)
      somebody-found base here (Some at) found e =
          somebody-there at (subst (λ (b : ℕ). at ≡ first most_open (between keys b (b + limit))) here found.0) (λ q. absurd (omega (arith, found.1)))

    -- no call stands at a site without threads
    pub threadless : get_or most-of s 0 ≡ 0 → any (may_wake rs cs s) cs ≡ false
    unfolding may_wake waits_on is_on
    threadless e =
        not_true_false (any (may_wake rs cs s) cs)
        (λ q.
        let w = any_some (may_wake rs cs s) cs q in
        let c = w.0 in
        let waits = and_left (eqb (site_of rs c.node) s && not c.active) (admissible rs cs c.node) w.2 in
        let here = eqb-true (site_of rs c.node) s (and_left (eqb (site_of rs c.node) s) (not c.active) waits) in
        omega (arith, level_below-threads rs ok.firm.pass c.node (ok.firm.known c w.1), ap (threads rs) here, most_is, e))

    pub asleep_more : AsleepTo rs cs s → any (may_wake rs cs s) cs ≡ false → AsleepTo rs cs (s + 1)
    asleep_more asleep e t l =
        ⊎_elim (λ (p : t < s). asleep t p)
        (λ (p : s ≤ t). let same : s ≡ t = omega arith in subst (λ (u : ℕ). any (may_wake rs cs u) cs ≡ false) same e)
        (lt_or_ge t s)

  pub all_asleep : (n : ℕ) → sites ≤ n → AsleepTo rs cs n → true ≡ all (λ c. not (could_go rs cs c)) cs
  all_asleep n past asleep =
      sym
      (all-each (λ c. not (could_go rs cs c)) cs
      (λ c m.
      ap not
      (not_true_false (could_go rs cs c)
      (λ e.
      let s = site_of rs c.node in
      let inside = site_small rs ok.firm.pass c.node (ok.firm.known c m) in
      never_both (wakes_there rs cs c e) (any_none (may_wake rs cs s) cs (asleep s (omega arith)) c m)))))
