-- The search as the chain of iterators has it: the position among the first calls of the table. That it is the place of the definition: the idea is an
-- induction over the table and the count, in which each place moves down by one. Assumes nothing.
use Prim.Native.Nat.{ℕ, zero, suc, ◌+◌, ◌≤◌, ◌<◌}
use native.Mathlib.Omega.{arith}
use mathlib.Core.Path.{◌≡◌, sym, ap, ◌∙◌}
use mathlib.Core.Logic.{⊎_elim}
use mathlib.Core.Bool.{Bool, true, false, ◌&&◌, cond}
use mathlib.Core.List.{List, [], ◌∷◌}
use lib.ListN.{length, get_or, take}
use lib.Dec.{eqb, ltb}
use borrow.Author.Tests.{lt-ltb, le-ltb}
use Rattle.std.specs.Prelude.{◌==◌, Option, Some, None}
use Rattle.std.specs.List.{position_from, position_or_len}
use Rattle.std.proofs.lemmas.Iterator.Adapters.{position_from-zero}
use Rattle.lists.specs.Count.{first}
use Rattle.lists.proofs.CountLaws.{lt_or_ge, first_none}
use Rattle.lists.proofs.TellLaws.{first_same}
use Rattle.value.specs.View.{spare}
use Rattle.value.specs.declared.Call.{Call}
use Rattle.lookup.specs.Lookup.{has_at, place_in, placed}

-- the ticket at a place
abbrev pub ticket_at : List Call → ℕ → ℕ
ticket_at calls i = (get_or calls i spare).ticket.0

-- a call of this ticket
abbrev pub of_ticket : ℕ → Call → Bool
of_ticket ticket call = call.ticket.0 == ticket

-- The test at a place: behind the table's end it fails, and inside it is whether the ticket there is the one

has-past : (calls : List Call) (ticket i : ℕ) → length calls ≤ i → has_at calls ticket i ≡ false
unfolding has_at
has-past calls ticket i h = ap (λ (b : Bool). b && eqb (ticket_at calls i) ticket) (le-ltb i (length calls) h)

pub has_inside : (calls : List Call) (ticket i : ℕ) → i < length calls → has_at calls ticket i ≡ eqb (ticket_at calls i) ticket
unfolding has_at
has_inside calls ticket i h = ap (λ (b : Bool). b && eqb (ticket_at calls i) ticket) (lt-ltb i (length calls) h)

-- the test at the next place is that of the table without its first call
moved : (call : Call) (calls : List Call) (ticket i : ℕ) → has_at (call ∷ calls) ticket (suc i) ≡ has_at calls ticket i
unfolding has_at
moved call calls ticket i = ⊎_elim (λ (h : i < length calls). has_inside (call ∷ calls) ticket (suc i) (omega arith) ∙ sym (has_inside calls ticket i h))
    (λ h. has-past (call ∷ calls) ticket (suc i) (omega arith) ∙ sym (has-past calls ticket i h)) (lt_or_ge i (length calls))

next_place : (call : Call) (calls : List Call) (ticket used : ℕ)
    → place_in (call ∷ calls) (suc used) ticket ≡ cond (of_ticket ticket call) 0 (suc (place_in calls used ticket))
unfolding place_in first
next_place call calls ticket used =
    ap (λ (b : Bool). cond b 0 (suc (first used (λ k. has_at (call ∷ calls) ticket (suc k))))) (has_inside (call ∷ calls) ticket 0 (omega arith))
    ∙ ap (λ (n : ℕ). cond (of_ticket ticket call) 0 (suc n)) (first_same used (λ k. has_at (call ∷ calls) ticket (suc k)) (has_at calls ticket) (λ k h. moved call calls ticket k))

nothing_there : (used ticket : ℕ) → place_in [] used ticket ≡ used
unfolding place_in
nothing_there used ticket = first_none used (has_at [] ticket) (λ j h. has-past [] ticket j (omega arith))

-- the position as it is counted from a number on
counted : ℕ → ℕ → ℕ → Option ℕ
counted from used at = cond (ltb at used) (Some (from + at)) None

there : (from used at : ℕ) → at < used → counted from used at ≡ Some (from + at)
unfolding counted
there from used at h = ap (λ (b : Bool). cond b (Some (from + at)) None) (lt-ltb at used h)

not_there : (from used at : ℕ) → used ≤ at → counted from used at ≡ None
unfolding counted
not_there from used at h = ap (λ (b : Bool). cond b (Some (from + at)) None) (le-ltb at used h)

next_counted : (from used at : ℕ) → counted (from + 1) used at ≡ counted from (suc used) (suc at)
next_counted from used at =
    ⊎_elim
    (λ (h : at < used).
    let same : (from + 1) + at ≡ from + suc at = omega arith in
    there (from + 1) used at h ∙ ap Some same ∙ sym (there from (suc used) (suc at) (omega arith)))
    (λ h. not_there (from + 1) used at h ∙ sym (not_there from (suc used) (suc at) (omega arith)))
    (lt_or_ge at used)

position_there : (calls : List Call) (ticket used from : ℕ)
    → position_from (of_ticket ticket) from (take used calls) ≡ counted from used (place_in calls used ticket)
unfolding place_in first
position_there calls ticket zero from = sym (not_there from 0 0 (omega arith))
position_there [] ticket (suc used) from =
    sym (not_there from (suc used) (place_in [] (suc used) ticket) (omega (arith, nothing_there (suc used) ticket)))
position_there (call ∷ calls) ticket (suc used) from = rw next_place (go (of_ticket ticket call) (position_there calls ticket used (from + 1)))
  where
    go : (b : Bool)
        → position_from (of_ticket ticket) (from + 1) (take used calls) ≡ counted (from + 1) used (place_in calls used ticket)
        → cond b (Some from) (position_from (of_ticket ticket) (from + 1) (take used calls))
        ≡ counted from (suc used) (cond b 0 (suc (place_in calls used ticket)))
    go true rest = let same : from + 0 ≡ from = omega arith in sym (there from (suc used) 0 (omega arith) ∙ ap Some same)
    go false rest = rest ∙ next_counted from used (place_in calls used ticket)

module _ (calls : List Call) (ticket used : ℕ) where
  from_zero : counted 0 used (place_in calls used ticket) ≡ placed used (place_in calls used ticket)
  unfolding counted
  from_zero = ap (λ (at : ℕ). cond (ltb (place_in calls used ticket) used) (Some at) None) (let it : 0 + place_in calls used ticket ≡ place_in calls used ticket = omega arith in it)

  pub position_placed : cond (ltb (position_or_len (of_ticket ticket) (take used calls)) (length (take used calls)))
      (Some (position_or_len (of_ticket ticket) (take used calls))) None ≡ placed used (place_in calls used ticket)
  position_placed = position_from-zero (of_ticket ticket) (take used calls) ∙ position_there calls ticket used 0 ∙ from_zero
