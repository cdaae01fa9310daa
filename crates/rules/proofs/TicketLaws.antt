-- Open tickets differ and none is 0: exactly where each ticket is found first at its own place. Assumes nothing.
use Prim.Native.Nat.{ℕ, ◌+◌, ◌≤◌, ◌<◌}
use native.Mathlib.Omega.{arith}
use mathlib.Core.Path.{◌≡◌, refl, sym, ap, subst, ◌∙◌}
use mathlib.Core.Logic.{⊎_elim}
use mathlib.Core.Bool.{Bool, true, false, not, cond, ◌&&◌}
use mathlib.Core.List.{List}
use lib.ListN.{length, get_or}
use lib.Dec.{eqb}
use Rattle.std.specs.Prelude.{Option, Some, None}
use Rattle.std.specs.Option.{option_eq}
use borrow.Author.Tests.{eq-eqb, ne_eqb, eqb-true, eqb-false, le-leb, lt-leb}
use Rattle.ids.specs.Limits.{most_open, no_ticket}
use Rattle.lists.specs.Count.{first}
use Rattle.lists.specs.Pick.{count, any, tell, passes_at, first_place}
use Rattle.lists.proofs.CountLaws.{lt_or_ge, never_both, and_both, denied, granted}
use Rattle.lists.proofs.TellLaws.{passes-past}
use Rattle.lists.proofs.PlaceLaws.{tell_there, passes_there, all-places, one_fails, any_there, at_most_one, more_than_one}
use Rattle.model.specs.Net.{Call, has}
use Rattle.model.specs.NetRules.{own_ticket, some_ticket, tickets_kept}
use Rattle.table.specs.Places.{holds, Searched, Found}
use Rattle.moves.specs.Held.{ticket_number}
use Rattle.moves.proofs.KeyLaws.{nobody}
use Rattle.moves.proofs.TableLaws.{tells_table, find_is}
use Rattle.rules.specs.Rules.{TicketsSeen}

-- each ticket below a place is some ticket, found first at its own place
abbrev pub OwnTo : List Call → ℕ → Type 0
OwnTo cs i = (j : ℕ) → j < i → (0 < tell ticket_number cs j) × (first_place (has (tell ticket_number cs j)) cs ≡ j)

module _ {cs : List Call} {tickets : List ℕ} {used : ℕ} (seen : TicketsSeen cs tickets used) where
  pub find_fits : (ticket : ℕ) → (ticket ≡ no_ticket → ⊥) → Searched tickets used ticket
  find_fits ticket apart =
      record { table = tells_table seen.of_tickets seen.counted.count seen.counted.few; some_number = omega (arith, apart) }

  module _ (i : ℕ) (inside : i < used) where
    room : i < length cs
    room = omega (arith, seen.counted.count)

    ticket_is : get_or tickets i 0 ≡ (get_or cs i nobody).ticket
    ticket_is = seen.of_tickets.each i ∙ tell_there ticket_number cs i nobody room

    pub none_fails : get_or tickets i 0 ≡ no_ticket → false ≡ tickets_kept cs
    unfolding tickets_kept
    none_fails e = sym (one_fails (λ c. own_ticket cs c && some_ticket c) cs i nobody room (go (own_ticket cs (get_or cs i nobody))))
      where
        zero-there : eqb (get_or cs i nobody).ticket no_ticket ≡ true
        zero-there = eq-eqb (get_or cs i nobody).ticket no_ticket (sym ticket_is ∙ e)

        go : (b : Bool) → (b && some_ticket (get_or cs i nobody)) ≡ false
        go true = ap not zero-there
        go false = refl

    passes_here : passes_at (has (get_or tickets i 0)) cs i ≡ true
    unfolding has
    passes_here = passes_there (has (get_or tickets i 0)) cs i nobody room ∙ eq-eqb (get_or cs i nobody).ticket (get_or tickets i 0) (sym ticket_is)

    -- the search finds the ticket, here or before
    module _ (apart : get_or tickets i 0 ≡ no_ticket → ⊥) where
      module _ (at : ℕ) (found_at : at ≡ first most_open (holds tickets (get_or tickets i 0))) where
        at_is : at ≡ first_place (has (get_or tickets i 0)) cs
        at_is =
            found_at ∙ find_is seen.of_tickets seen.counted.few (get_or tickets i 0) (omega (arith, apart))
            ∙ ap (λ (b : Bool). cond b (first_place (has (get_or tickets i 0)) cs) most_open) there
          where
            there : any (has (get_or tickets i 0)) cs ≡ true
            there = any_there (has (get_or tickets i 0)) cs i nobody room (sym (passes_there (has (get_or tickets i 0)) cs i nobody room) ∙ passes_here)

        pub twice-fails : (at ≡ i → ⊥) → false ≡ tickets_kept cs
        unfolding tickets_kept
        twice-fails elsewhere =
            sym
            (one_fails (λ c. own_ticket cs c && some_ticket c) cs i nobody room
            (ap (λ (b : Bool). b && some_ticket (get_or cs i nobody))
            (lt-leb (count (has (get_or cs i nobody).ticket) cs) 1
            (subst (λ (t : ℕ). 2 ≤ count (has t) cs) ticket_is
            (more_than_one (has (get_or tickets i 0)) cs i passes_here (λ e. elsewhere (at_is ∙ e)))))))

        pub own-more : OwnTo cs i → at ≡ i → OwnTo cs (i + 1)
        own-more own here j l =
            ⊎_elim (λ (p : j < i). own j p)
            (λ (p : i ≤ j).
            let same : i ≡ j = omega arith in
            subst (λ (k : ℕ). (0 < tell ticket_number cs k) × (first_place (has (tell ticket_number cs k)) cs ≡ k)) same
            (omega (arith, apart, seen.of_tickets.each i), ap (λ (t : ℕ). first_place (has t) cs) (sym (seen.of_tickets.each i)) ∙ sym at_is ∙ here))
            (lt_or_ge j i)

      pub other-fails : (o : Option ℕ) → Found o (holds tickets (get_or tickets i 0)) → true ≡ not (option_eq eqb o (Some i)) → false ≡ tickets_kept cs
      other-fails None found e = twice-fails most_open found (λ q. absurd (omega (arith, seen.counted.count, seen.counted.few)))
      other-fails (Some at) found e = twice-fails at found.0 (eqb-false at i (denied (eqb at i) (eqb at i) refl (sym e)))

      pub own-found : OwnTo cs i → (o : Option ℕ) → Found o (holds tickets (get_or tickets i 0)) → false ≡ not (option_eq eqb o (Some i)) → OwnTo cs (i + 1)
      own-found own None found e = absurd (never_both {b = false} e refl)
      own-found own (Some at) found e = own-more at found.0 own (eqb-true at i (granted (eqb at i) (eqb at i) refl (sym e)))

  pub all_own : (i : ℕ) → used ≤ i → OwnTo cs i → true ≡ tickets_kept cs
  unfolding tickets_kept has
  all_own i past own = sym (all-places (λ c. own_ticket cs c && some_ticket c) cs at)
    where
      once : (j : ℕ) → j < length cs → count (has (tell ticket_number cs j)) cs ≤ 1
      once j l =
          at_most_one (has (tell ticket_number cs j)) cs
          (λ k e.
          ⊎_elim
          (λ (p : k < length cs).
          let same : tell ticket_number cs k ≡ tell ticket_number cs j =
          tell_there ticket_number cs k nobody p
          ∙ eqb-true (get_or cs k nobody).ticket (tell ticket_number cs j) (sym (passes_there (has (tell ticket_number cs j)) cs k nobody p) ∙ e)
          in
          ap (λ (t : ℕ). first_place (has t) cs) (sym same) ∙ (own k (omega (arith, seen.counted.count))).1)
          (λ (p : length cs ≤ k). absurd (never-passes k p e))
          (lt_or_ge k (length cs)))
        where
          never-passes : (k : ℕ) → length cs ≤ k → passes_at (has (tell ticket_number cs j)) cs k ≡ true → ⊥
          never-passes k p e = never_both e (passes-past (has (tell ticket_number cs j)) cs k p)

      at : (j : ℕ) → j < length cs → passes_at (λ c. own_ticket cs c && some_ticket c) cs j ≡ true
      at j l =
          let told = tell_there ticket_number cs j nobody l in
          passes_there (λ c. own_ticket cs c && some_ticket c) cs j nobody l
          ∙ and_both (own_ticket cs (get_or cs j nobody)) (some_ticket (get_or cs j nobody))
          (le-leb (count (has (get_or cs j nobody).ticket) cs) 1 (subst (λ (t : ℕ). count (has t) cs ≤ 1) told (once j l)))
          (ap not
          (ne_eqb (get_or cs j nobody).ticket no_ticket (λ e. absurd (omega (arith, (own j (omega (arith, seen.counted.count))).0, told)))))
