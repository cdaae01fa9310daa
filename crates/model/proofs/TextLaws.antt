-- A number's decimal digits read back as the number, each byte is a digit, and the first is no 0 unless the number is. By induction over the places.
-- Assumes nothing.
use Prim.Native.Nat.{ℕ, zero, suc, ◌+◌, ◌-◌, ◌*◌, ◌/◌, ◌%◌, ◌^◌, ◌≤◌, ◌<◌}
use native.Mathlib.Nat.{pow-suc}
use native.Mathlib.Omega.{arith}
use mathlib.Core.Path.{◌≡◌, refl}
use mathlib.Core.Logic.{⊎_elim}
use mathlib.Core.Bool.{Bool, true, false, ◌&&◌, cond}
use mathlib.Core.List.{[], ◌∷◌, ◌++◌}
use lib.ListN.{length, get_or, length-append}
use lib.Dec.{ltb, leb}
use borrow.Author.Tests.{lt-ltb, le-ltb, le-leb}
use Rattle.lists.specs.Pick.{all}
use Rattle.lists.proofs.CountLaws.{lt_or_ge, and_left, and_right, and_both}
use Rattle.model.specs.Text.{Text, digit, decimal_in, decimal, most_digits, reads_on}

reads_more : (before : ℕ) (ds : Text) (d : ℕ) → reads_on before (ds ++ (d ∷ [])) ≡ 10 * reads_on before ds + (d - 48)
unfolding reads_on
reads_more before [] d = refl
reads_more before (e ∷ ds) d = reads_more (10 * before + (e - 48)) ds d

-- one turn of the division: a last digit, behind the digits of the tenth
reads_turn : (places n : ℕ) → (10 ≤ n → reads_on 0 (decimal_in places (n / 10)) ≡ n / 10) → reads_on 0 (decimal_in (suc places) n) ≡ n
unfolding decimal_in reads_on
reads_turn places n tenth = ⊎_elim small large (lt_or_ge n 10)
  where
    small : n < 10 → reads_on 0 (cond (ltb n 10) (digit n ∷ []) (decimal_in places (n / 10) ++ (digit (n % 10) ∷ []))) ≡ n
    small h = rw (lt-ltb n 10 h) (omega arith)

    large : 10 ≤ n → reads_on 0 (cond (ltb n 10) (digit n ∷ []) (decimal_in places (n / 10) ++ (digit (n % 10) ∷ []))) ≡ n
    large h = rw (le-ltb n 10 h) (omega (arith, reads_more 0 (decimal_in places (n / 10)) (digit (n % 10)), tenth h))

reads_in : (places n : ℕ) → n < 10 ^ suc places → reads_on 0 (decimal_in (suc places) n) ≡ n
reads_in zero n h = reads_turn 0 n (λ p. absurd (omega arith))
reads_in (suc places) n h = reads_turn (suc places) n (λ p. reads_in places (n / 10) (omega (arith, pow-suc 10 (suc places))))

-- the digits of a number read back as the number
pub decimal_reads : (n : ℕ) → n < 10 ^ most_digits → reads_on 0 (decimal n) ≡ n
unfolding decimal
decimal_reads n h = reads_in 19 n h

-- and the first of them is no 0, unless the number is

front : (xs ys : Text) → 1 ≤ get_or xs 0 0 → get_or (xs ++ ys) 0 0 ≡ get_or xs 0 0
front [] ys h = absurd (omega arith)
front (x ∷ xs) ys h = refl

first_turn : (places n : ℕ) → 1 ≤ n → (10 ≤ n → digit 1 ≤ get_or (decimal_in places (n / 10)) 0 0) → digit 1 ≤ get_or (decimal_in (suc places) n) 0 0
unfolding decimal_in
first_turn places n some tenth = ⊎_elim small large (lt_or_ge n 10)
  where
    small : n < 10 → digit 1 ≤ get_or (cond (ltb n 10) (digit n ∷ []) (decimal_in places (n / 10) ++ (digit (n % 10) ∷ []))) 0 0
    small h = rw (lt-ltb n 10 h) (omega arith)

    large : 10 ≤ n → digit 1 ≤ get_or (cond (ltb n 10) (digit n ∷ []) (decimal_in places (n / 10) ++ (digit (n % 10) ∷ []))) 0 0
    large h =
        rw (le-ltb n 10 h)
        (omega (arith, tenth h, front (decimal_in places (n / 10)) (digit (n % 10) ∷ []) (omega (arith, tenth h))))

first_in : (places n : ℕ) → 1 ≤ n → n < 10 ^ suc places → digit 1 ≤ get_or (decimal_in (suc places) n) 0 0
first_in zero n some h = first_turn 0 n some (λ p. absurd (omega arith))
first_in (suc places) n some h = first_turn (suc places) n some (λ p. first_in places (n / 10) (omega arith) (omega (arith, pow-suc 10 (suc places))))

pub decimal-first : (n : ℕ) → 1 ≤ n → n < 10 ^ most_digits → digit 1 ≤ get_or (decimal n) 0 0
unfolding decimal
decimal-first n some h = first_in 19 n some h

-- every byte of a number is a digit, and there is one

abbrev is_digit : ℕ → Bool
is_digit b = leb (digit 0) b && leb b (digit 9)

digit-is : (d : ℕ) → d < 10 → is_digit (digit d) ≡ true
digit-is d h =
    and_both (leb (digit 0) (digit d)) (leb (digit d) (digit 9)) (le-leb (digit 0) (digit d) (omega arith)) (le-leb (digit d) (digit 9) (omega arith))

all_more : (f : ℕ → Bool) (xs : Text) (y : ℕ) → all f xs ≡ true → f y ≡ true → all f (xs ++ (y ∷ [])) ≡ true
unfolding all
all_more f [] y h e = rw e
all_more f (x ∷ xs) y h e = and_both (f x) (all f (xs ++ (y ∷ []))) (and_left (f x) (all f xs) h) (all_more f xs y (and_right (f x) (all f xs) h) e)

digits_in : (places n : ℕ) → all is_digit (decimal_in places n) ≡ true
unfolding decimal_in all
digits_in zero n = refl
digits_in (suc places) n = ⊎_elim small (large (digits_in places (n / 10))) (lt_or_ge n 10)
  where
    small : n < 10 → all is_digit (cond (ltb n 10) (digit n ∷ []) (decimal_in places (n / 10) ++ (digit (n % 10) ∷ []))) ≡ true
    small h = rw (lt-ltb n 10 h) (all_more is_digit [] (digit n) refl (digit-is n h))

    large : all is_digit (decimal_in places (n / 10)) ≡ true → 10 ≤ n
        → all is_digit (cond (ltb n 10) (digit n ∷ []) (decimal_in places (n / 10) ++ (digit (n % 10) ∷ []))) ≡ true
    large tenth h = rw (le-ltb n 10 h) (all_more is_digit (decimal_in places (n / 10)) (digit (n % 10)) tenth (digit-is (n % 10) (omega arith)))

pub decimal_digits : (n : ℕ) → all is_digit (decimal n) ≡ true
unfolding decimal
decimal_digits n = digits_in most_digits n

pub decimal-some : (n : ℕ) → 1 ≤ length (decimal n)
unfolding decimal decimal_in
decimal-some n = go (ltb n 10)
  where
    go : (b : Bool) → 1 ≤ length (cond b (digit n ∷ []) (decimal_in 19 (n / 10) ++ (digit (n % 10) ∷ [])))
    go true = omega arith
    go false = omega (arith, length-append (decimal_in 19 (n / 10)) (digit (n % 10) ∷ []))
