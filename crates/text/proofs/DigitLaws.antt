-- The digits of a number, two at a time where it has up to five, and by its tenth otherwise; and how many there are at the most. Assumes nothing.
use Prim.Native.Nat.{ℕ, zero, suc, ◌+◌, ◌*◌, ◌/◌, ◌%◌, ◌^◌, ◌≤◌, ◌<◌}
use native.Mathlib.Nat.{pow-suc}
use native.Mathlib.Omega.{arith}
use mathlib.Core.Path.{◌≡◌, sym, ap, ◌∙◌}
use mathlib.Core.Logic.{⊎_elim}
use mathlib.Core.List.{[], ◌∷◌, ◌++◌, append_assoc}
use lib.ListN.{length, length-append}
use borrow.Author.Tests.{lt-ltb, le-ltb}
use Rattle.lists.proofs.CountLaws.{lt_or_ge}
use Rattle.model.specs.Text.{Text, digit, decimal_in, decimal, most_digits, spaced}
use Rattle.text.specs.Lines.{pair_text}
use Rattle.text.specs.Room.{number_room, long_room}

-- One digit, and one more behind those of the tenth

in_one : (places n : ℕ) → n < 10 → decimal_in (suc places) n ≡ digit n ∷ []
unfolding decimal_in
in_one places n h = rw (lt-ltb n 10 h)

in_more : (places n : ℕ) → 10 ≤ n → decimal_in (suc places) n ≡ decimal_in places (n / 10) ++ (digit (n % 10) ∷ [])
unfolding decimal_in
in_more places n h = rw (le-ltb n 10 h)

-- Up to five digits, by pairs

-- both digits in one number, the first in its low byte
abbrev pub in_one_number : ℕ → ℕ
in_one_number n = digit (n / 10) + 256 * digit (n % 10)

pub pair_stored : (n : ℕ) → n < 100 → in_one_number n % 256 ∷ in_one_number n / 256 ∷ [] ≡ pair_text n
unfolding pair_text
pair_stored n h =
    let first : in_one_number n % 256 ≡ digit (n / 10) = omega arith in
    let second : in_one_number n / 256 ≡ digit (n % 10) = omega arith in
    cc

in_two : (places n : ℕ) → 10 ≤ n → n < 100 → decimal_in (suc (suc places)) n ≡ pair_text n
unfolding pair_text
in_two places n low high = in_more (suc places) n low ∙ ap (λ (ds : Text). ds ++ (digit (n % 10) ∷ [])) (in_one places (n / 10) (omega arith))

in_pair : (places n : ℕ) → 100 ≤ n → decimal_in (suc (suc places)) n ≡ decimal_in places (n / 100) ++ pair_text (n % 100)
unfolding pair_text
in_pair places n low =
    let hundreds : n / 10 / 10 ≡ n / 100 = omega arith in
    let tens : n / 10 % 10 ≡ n % 100 / 10 = omega arith in
    let ones : n % 10 ≡ n % 100 % 10 = omega arith in
    in_more (suc places) n (omega arith)
    ∙ ap (λ (ds : Text). ds ++ (digit (n % 10) ∷ [])) (in_more places (n / 10) (omega arith))
    ∙ append_assoc (decimal_in places (n / 10 / 10)) (digit (n / 10 % 10) ∷ []) (digit (n % 10) ∷ [])
    ∙ cc

in_three : (places n : ℕ) → 100 ≤ n → n < 1000 → decimal_in (suc (suc (suc places))) n ≡ digit (n / 100) ∷ pair_text (n % 100)
in_three places n low high =
    in_pair (suc places) n low ∙ ap (λ (ds : Text). ds ++ pair_text (n % 100)) (in_one places (n / 100) (omega arith))

in_four : (places n : ℕ) → 1000 ≤ n → n < 10000 → decimal_in (suc (suc (suc (suc places)))) n ≡ pair_text (n / 100) ++ pair_text (n % 100)
in_four places n low high =
    in_pair (suc (suc places)) n (omega arith)
    ∙ ap (λ (ds : Text). ds ++ pair_text (n % 100)) (in_two places (n / 100) (omega arith) (omega arith))

in_five : (places n : ℕ) → 10000 ≤ n → n < 100000 → decimal_in (suc (suc (suc (suc (suc places))))) n
    ≡ (digit (n / 10000) ∷ pair_text (n % 10000 / 100)) ++ pair_text (n % 10000 % 100)
in_five places n low high =
    let first : n / 100 / 100 ≡ n / 10000 = omega arith in
    let middle : n / 100 % 100 ≡ n % 10000 / 100 = omega arith in
    let last : n % 100 ≡ n % 10000 % 100 = omega arith in
    in_pair (suc (suc (suc places))) n (omega arith)
    ∙ ap (λ (ds : Text). ds ++ pair_text (n % 100)) (in_three places (n / 100) (omega arith) (omega arith))
    ∙ cc

-- the same behind a space, as the stores leave them

module _ (n : ℕ) where
  pub spaced-one : n < 10 → 32 ∷ digit n ∷ [] ≡ spaced n
  unfolding spaced decimal
  spaced-one h = ap (λ (ds : Text). 32 ∷ ds) (sym (in_one 19 n h))

  pub spaced_two : 10 ≤ n → n < 100 → (32 ∷ []) ++ pair_text n ≡ spaced n
  unfolding spaced decimal
  spaced_two low high = ap (λ (ds : Text). 32 ∷ ds) (sym (in_two 18 n low high))

  pub spaced_three : 100 ≤ n → n < 1000 → (32 ∷ digit (n / 100) ∷ []) ++ pair_text (n % 100) ≡ spaced n
  unfolding spaced decimal
  spaced_three low high = ap (λ (ds : Text). 32 ∷ ds) (sym (in_three 17 n low high))

  pub spaced_four : 1000 ≤ n → n < 10000 → (32 ∷ []) ++ pair_text (n / 100) ++ pair_text (n % 100) ≡ spaced n
  unfolding spaced decimal
  spaced_four low high = ap (λ (ds : Text). 32 ∷ ds) (sym (in_four 16 n low high))

  pub spaced_five : 10000 ≤ n → n < 100000
      → (32 ∷ digit (n / 10000) ∷ []) ++ pair_text (n % 10000 / 100) ++ pair_text (n % 10000 % 100) ≡ spaced n
  unfolding spaced decimal
  spaced_five low high = ap (λ (ds : Text). 32 ∷ ds) (sym (in_five 15 n low high))

-- A number is its tenth and a last digit

in_enough : (places n : ℕ) → n < 10 ^ suc places → decimal_in (suc places) n ≡ decimal_in (suc (suc places)) n
in_enough zero n h = in_one 0 n (omega arith) ∙ sym (in_one 1 n (omega arith))
in_enough (suc k) n h = ⊎_elim small (large (in_enough k (n / 10) (omega (arith, pow-suc 10 (suc k))))) (lt_or_ge n 10)
  where
    small : n < 10 → decimal_in (suc (suc k)) n ≡ decimal_in (suc (suc (suc k))) n
    small p = in_one (suc k) n p ∙ sym (in_one (suc (suc k)) n p)

    large : decimal_in (suc k) (n / 10) ≡ decimal_in (suc (suc k)) (n / 10) → 10 ≤ n → decimal_in (suc (suc k)) n ≡ decimal_in (suc (suc (suc k))) n
    large e p = in_more (suc k) n p ∙ ap (λ (ds : Text). ds ++ (digit (n % 10) ∷ [])) e ∙ sym (in_more (suc (suc k)) n p)

pub decimal-one : (n : ℕ) → n < 10 → digit n ∷ [] ≡ decimal n
unfolding decimal
decimal-one n h = sym (in_one 19 n h)

pub decimal_more : (n : ℕ) → 10 ≤ n → n < 10 ^ most_digits → decimal (n / 10) ++ (digit (n % 10) ∷ []) ≡ decimal n
unfolding decimal
decimal_more n low high =
    ap (λ (ds : Text). ds ++ (digit (n % 10) ∷ [])) (sym (in_enough 18 (n / 10) (omega arith))) ∙ sym (in_more 19 n low)

pub decimal_longer : (n : ℕ) → 10 ≤ n → n < 10 ^ most_digits → length (decimal n) ≡ length (decimal (n / 10)) + 1
decimal_longer n low high = ap length (sym (decimal_more n low high)) ∙ length-append (decimal (n / 10)) (digit (n % 10) ∷ [])

-- How long it is

-- one turn: if the tenth has so many at the most, the number has one more
length_turn : (places most n : ℕ) → (10 ≤ n → length (decimal_in places (n / 10)) ≤ most) → length (decimal_in (suc places) n) ≤ suc most
length_turn places most n tenth = ⊎_elim small large (lt_or_ge n 10)
  where
    small : n < 10 → length (decimal_in (suc places) n) ≤ suc most
    small h = rw (in_one places n h) (omega arith)

    large : 10 ≤ n → length (decimal_in (suc places) n) ≤ suc most
    large h = rw (in_more places n h) (omega (arith, length-append (decimal_in places (n / 10)) (digit (n % 10) ∷ []), tenth h))

length-places : (places n : ℕ) → length (decimal_in places n) ≤ places
unfolding decimal_in
length-places zero n = omega arith
length-places (suc places) n = length_turn places places n (λ h. length-places places (n / 10))

length_below : (places most n : ℕ) → n < 10 ^ suc most → length (decimal_in places n) ≤ suc most
unfolding decimal_in
length_below zero most n h = omega arith
length_below (suc places) zero n h = length_turn places 0 n (λ low. absurd (omega arith))
length_below (suc places) (suc most) n h = length_turn places (suc most) n (λ low. length_below places most (n / 10) (omega (arith, pow-suc 10 (suc most))))

pub pair_most : (n : ℕ) → length (pair_text n) ≤ 2
unfolding pair_text
pair_most n = omega arith

pub spaced_most : (n : ℕ) → n < 65536 → length (spaced n) ≤ number_room
unfolding spaced decimal
spaced_most n h = omega (arith, length_below most_digits 4 n (omega arith))

pub decimal_most : (n : ℕ) → length (decimal n) ≤ most_digits
unfolding decimal
decimal_most n = length-places most_digits n

pub spaced_long : (n : ℕ) → length (spaced n) ≤ long_room
unfolding spaced
spaced_long n = omega (arith, decimal_most n)
