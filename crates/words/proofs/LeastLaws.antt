-- The trailing zeros of a word are its least node, and a word less 1 in common with the word is the set without that node. By the digits of a number: above
-- an even digit both are those of the word's half, and an odd digit is the least node itself. Assumes nothing.
use Prim.Native.Nat.{ℕ, zero, suc, ◌+◌, ◌-◌, ◌*◌, ◌/◌, ◌%◌, ◌^◌, ◌≤◌, ◌<◌, min}
use native.Mathlib.Nat.{pow-suc, mod-lt, zero-lt-suc, mul-mod_left, mul-div_cancel}
use native.Mathlib.Omega.{arith}
use mathlib.Core.Path.{◌≡◌, refl, sym, ap, ap₂, ◌∙◌}
use mathlib.Core.Bool.{Bool, true, false, not, ◌&&◌, cond, and-true, and-false}
use mathlib.Core.Logic.{⊎_elim}
use lib.Bits.{bit_and, and_step, and_self, and_le_r}
use lib.Count.{count_trailing_zeros, under}
use lib.Dec.{eqb}
use borrow.Author.Tests.{ne_eqb}
use Rattle.ids.specs.Limits.{nodes}
use Rattle.lists.specs.Count.{first}
use Rattle.lists.proofs.CountLaws.{lt_or_ge, first_holds, first_before}
use Rattle.lists.proofs.TellLaws.{first_same}
use Rattle.words.specs.Words.{member, least, without_least}
use Rattle.words.proofs.WordLaws.{lowest_digit, higher_digits, next_same, member_zero, members_one}

-- the least node of a word's half
half_first : (k word : ℕ) → first k (member (word / 2)) ≡ first k (λ n. member word (suc n))
half_first k word = first_same k (member (word / 2)) (λ n. member word (suc n)) (λ n h. sym (higher_digits word n))

first-digit : (k word d : ℕ) → word % 2 ≡ d → first (suc k) (member word) ≡ cond (eqb d 1) 0 (suc (first k (member (word / 2))))
unfolding first
first-digit k word d e =
    ap₂ (λ (t : Bool) (n : ℕ). cond t 0 (suc n)) (lowest_digit word ∙ ap (λ (x : ℕ). eqb x 1) e) (sym (half_first k word))

trailing_first : (k word : ℕ) → count_trailing_zeros k word ≡ first k (member word)
unfolding count_trailing_zeros first
trailing_first zero word = refl
trailing_first (suc k) word = go (word % 2) refl (mod-lt word (zero-lt-suc 1)) (trailing_first k (word / 2))
  where
    go : (d : ℕ) → word % 2 ≡ d → d < 2 → count_trailing_zeros k (word / 2) ≡ first k (member (word / 2))
        → under d (count_trailing_zeros k (word / 2)) ≡ first (suc k) (member word)
    go zero e h rest = ap suc rest ∙ sym (first-digit k word 0 e)
    go (suc zero) e h rest = sym (first-digit k word 1 e)
    go (suc (suc d)) e h rest = absurd (omega arith)

pub trailing_least : (word : ℕ) → count_trailing_zeros nodes word ≡ least word
unfolding least
trailing_least word = trailing_first nodes word

-- no node below it is in the set
pub least_before : (word n : ℕ) → n < least word → member word n ≡ false
unfolding least
least_before word n h = first_before nodes (member word) n h

-- and where the set is not empty it is in it
pub least_inside : (word : ℕ) → word < 2 ^ nodes → 0 < word → (least word < nodes) × (member word (least word) ≡ true)
unfolding least
least_inside word small some =
    ⊎_elim
    (λ (p : first nodes (member word) < nodes). (p, first_holds nodes (member word) p))
    (λ (p : nodes ≤ first nodes (member word)).
    let none = members_one nodes word 0 small (omega arith) (λ n h. least_before word n (omega arith) ∙ sym (member_zero n)) in
    absurd (omega arith))
    (lt_or_ge (first nodes (member word)) nodes)

-- The word in common with the word less 1

even_low : (half : ℕ) → member (half * 2) 0 ≡ false
even_low half = lowest_digit (half * 2) ∙ ap (λ (x : ℕ). eqb x 1) (mul-mod_left half 2)

even_high : (half n : ℕ) → member (half * 2) (suc n) ≡ member half n
even_high half n = higher_digits (half * 2) n ∙ ap (λ (x : ℕ). member x n) (mul-div_cancel half (zero-lt-suc 1))

-- of an odd word it is the word without its last digit
odd_less : (word : ℕ) → word % 2 ≡ 1 → bit_and word (word - 1) ≡ word / 2 * 2
odd_less word e =
    let same : (word - 1) / 2 ≡ word / 2 = omega arith in
    let none : (word - 1) % 2 ≡ 0 = omega arith in
    and_step word (word - 1)
    ∙ ap₂ (λ (h d : ℕ). bit_and (word / 2) h * 2 + min (word % 2) d) same none
    ∙ ap₂ (λ (w d : ℕ). w * 2 + min d 0) (and_self (word / 2)) e
    ∙ omega arith

-- of an even word it is that of the half
even_less : (word : ℕ) → word % 2 ≡ 0 → bit_and word (word - 1) ≡ bit_and (word / 2) (word / 2 - 1) * 2
even_less word e =
    let half : (word - 1) / 2 ≡ word / 2 - 1 = omega arith in
    and_step word (word - 1)
    ∙ ap₂ (λ (h d : ℕ). bit_and (word / 2) h * 2 + min d ((word - 1) % 2)) half e
    ∙ omega arith

without-first : (k word n : ℕ) → word < 2 ^ k → member (bit_and word (word - 1)) n ≡ (member word n && not (eqb (first k (member word)) n))
without-first zero word n small =
    let none : word ≡ 0 = omega arith in
    ap (λ (w : ℕ). member (bit_and w (w - 1)) n) none
    ∙ member_zero n
    ∙ sym (ap (λ (b : Bool). b && not (eqb (first 0 (member word)) n)) (ap (λ (w : ℕ). member w n) none ∙ member_zero n))
without-first (suc k) word n small =
    go (word % 2) refl (mod-lt word (zero-lt-suc 1)) n (λ m. without-first k (word / 2) m (omega (arith, pow-suc 2 k)))
  where
    go : (d : ℕ) → word % 2 ≡ d → d < 2 → (m : ℕ)
        → ((i : ℕ) → member (bit_and (word / 2) (word / 2 - 1)) i ≡ (member (word / 2) i && not (eqb (first k (member (word / 2))) i)))
        → member (bit_and word (word - 1)) m ≡ (member word m && not (eqb (first (suc k) (member word)) m))
    go zero e h zero rest =
        ap (λ (w : ℕ). member w 0) (even_less word e)
        ∙ even_low (bit_and (word / 2) (word / 2 - 1))
        ∙ sym (ap (λ (b : Bool). b && not (eqb (first (suc k) (member word)) 0)) (lowest_digit word ∙ ap (λ (x : ℕ). eqb x 1) e))
    go zero e h (suc m) rest =
        ap (λ (w : ℕ). member w (suc m)) (even_less word e)
        ∙ even_high (bit_and (word / 2) (word / 2 - 1)) m
        ∙ rest m
        ∙ ap₂ (λ (a b : Bool). a && not b) (sym (higher_digits word m))
        (next_same (first k (member (word / 2))) m ∙ ap (λ (x : ℕ). eqb x (suc m)) (sym (first-digit k word 0 e)))
    go (suc zero) e h zero rest =
        ap (λ (w : ℕ). member w 0) (odd_less word e)
        ∙ even_low (word / 2)
        ∙ sym (and-false (member word 0))
        ∙ ap (λ (x : ℕ). member word 0 && not (eqb x 0)) (sym (first-digit k word 1 e))
    go (suc zero) e h (suc m) rest =
        ap (λ (w : ℕ). member w (suc m)) (odd_less word e)
        ∙ even_high (word / 2) m
        ∙ sym (higher_digits word m)
        ∙ sym (and-true (member word (suc m)))
        ∙ ap (λ (b : Bool). member word (suc m) && not b)
        (sym (ap (λ (x : ℕ). eqb x (suc m)) (first-digit k word 1 e) ∙ ne_eqb 0 (suc m) (λ q. omega (arith, q))))
    go (suc (suc d)) e h m rest = absurd (omega arith)

pub member-without : (word n : ℕ) → word < 2 ^ nodes → member (without_least word) n ≡ (member word n && not (eqb (least word) n))
unfolding least without_least
member-without word n small = without-first nodes word n small

-- and as a number it is less
pub without-less : (word : ℕ) → 0 < word → without_least word < word
unfolding without_least
without-less word some = omega (arith, and_le_r word (word - 1))
