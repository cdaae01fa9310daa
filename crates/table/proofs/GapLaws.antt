-- Closing a gap in an array that ends in zeros: each place takes over what stands one place further, and so does the last. Assumes nothing.
use Prim.Native.Nat.{ℕ, ◌+◌, ◌-◌, ◌≤◌, ◌<◌}
use native.Mathlib.Omega.{arith}
use mathlib.Core.Path.{◌≡◌, refl, sym, ap, ◌∙◌}
use mathlib.Core.Logic.{⊎_elim}
use mathlib.Core.List.{List}
use lib.ListN.{length, get_or, set, replicate}
use Rattle.std.specs.List.{CopiedTo, SameBelow, SameFrom}
use Rattle.lists.proofs.FillLaws.{filled_none, filled_more, filled_to}
use Rattle.ids.specs.Limits.{most_open}
use Rattle.std.proofs.lemmas.List.{get_or-replicate, get_or_past, length-replicate}
use Rattle.lists.proofs.CountLaws.{lt_or_ge}
use Rattle.table.specs.Places.{Padded, next_of, Closing}

-- moved place by place

pub gap_turn : {old new : List ℕ} {at i : ℕ} → at ≤ i → i < length old → Closing at i old new → Closing at (i + 1) old (set new i (get_or new (i + 1) 0))
unfolding next_of
gap_turn {old} {new} {at} {i} low h w =
    filled_more (next_of old) at i (i + 1) old new (get_or new (i + 1) 0) refl low h (w.outside (i + 1) (λ p q. omega arith)) w

pub gap_end : {old new : List ℕ} {at i last used : ℕ} → Padded old used → i ≡ last → last + 1 ≡ used → at ≤ last → Closing at i old new
    → Closing at used old (set new last 0)
unfolding next_of
gap_end {old} {new} {at} {i} {last} {used} t here e low w =
    filled_more (next_of old) at last used old new 0 (sym e) low (omega (arith, t.whole, t.few))
    (sym (ap (λ (n : ℕ). get_or old n 0) e ∙ t.zeros used (omega arith))) (filled_to here w)

pub gap_open : (at : ℕ) (numbers : List ℕ) → Closing at at numbers numbers
gap_open at numbers = filled_none (next_of numbers) at numbers

-- moved at once

module _ {old mid : List ℕ} {at used : ℕ} (same : mid ≡ old) (new : List ℕ) (last : ℕ) (t : Padded old used) (taken : at < used) (last_is : last + 1 ≡ used)
    (long : length new ≡ length mid) (moved : CopiedTo mid new (at + 1) at (used - (at + 1))) (below : SameBelow mid new at)
    (behind : SameFrom mid new (at + (used - (at + 1)))) where
  here : (n : ℕ) → get_or mid n 0 ≡ get_or old n 0
  here n = ap (λ (l : List ℕ). get_or l n 0) same

  up_to_last : Closing at last old new
  unfolding next_of
  up_to_last =
      record {
        long = long ∙ ap (λ (l : List ℕ). length l) same;
        inside = λ n p q. let next : at + 1 + (n - at) ≡ n + 1 = omega arith in moved n 0 p (omega arith) ∙ ap (λ (i : ℕ). get_or mid i 0) next ∙ here (n + 1);
        outside = λ n apart.
            ⊎_elim
            (λ (p : n < at). below n 0 p ∙ here n)
            (λ (p : at ≤ n). behind n 0 (⊎_elim (λ (q : n < last). absurd (apart p q)) (λ (q : last ≤ n). omega arith) (lt_or_ge n last)) ∙ here n)
            (lt_or_ge n at);
      }

  pub gap_closed : Closing at used old (set new last 0)
  unfolding next_of
  gap_closed =
      filled_more (next_of old) at last used old new 0 (sym last_is) (omega arith) (omega (arith, t.whole, t.few))
      (sym (ap (λ (n : ℕ). get_or old n 0) last_is ∙ t.zeros used (omega arith))) up_to_last

zero_at : (n i : ℕ) → ◌≡◌ {A = ℕ} (get_or (replicate n 0) i 0) 0
zero_at n i =
    ⊎_elim
    (λ (p : i < n). get_or-replicate n i 0 0 p)
    (λ (p : n ≤ i). get_or_past (replicate n 0) i 0 (omega (arith, length-replicate {A = ℕ} n 0)))
    (lt_or_ge i n)

-- a whole list of zeros
pub zeros_padded : Padded (replicate most_open 0) 0
zeros_padded = record { whole = length-replicate {A = ℕ} most_open 0; few = omega arith; zeros = λ i h. zero_at most_open i }
