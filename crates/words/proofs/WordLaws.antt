-- What is in a set of nodes: of the empty word nothing, of a union what is in either, of a common part what is in both, of a difference what is in the first
-- alone, and of a word with a node more that node and what was there before; and a word is determined by what is in it. By the digits of a number, one at a
-- time. Assumes nothing.
use Prim.Native.Nat.{ℕ, zero, suc, ◌+◌, ◌-◌, ◌*◌, ◌/◌, ◌%◌, ◌^◌, ◌≤◌, ◌<◌, min, max}
use native.Mathlib.Nat.{pow-suc, div-one, mul-add-mod_self_right, mul-mod_left, mul-div_cancel, mod-lt, div-div-eq-div-mul, div-lt_iff_lt-mul, mul_comm}
use native.Mathlib.Nat.{zero-lt-suc, not-suc-le-zero, one-mul, lt_of_le_of_lt}
use native.Mathlib.Omega.{arith}
use mathlib.Core.Path.{◌≡◌, refl, sym, ap, subst, ◌∙◌}
use mathlib.Core.Bool.{Bool, true, false, not, ◌&&◌, ◌||◌}
use lib.Bits.{bit_and, bit_or, and_shr, or_shr, and_step, or_step, and_le_l}
use lib.Pow.{shl_exact}
use lib.Dec.{eqb}
use borrow.Author.Tests.{eqb-true, eqb-false, eq-eqb, ne_eqb, lt-ltb, le-ltb}
use Rattle.ids.specs.Limits.{nodes}
use Rattle.lists.proofs.CountLaws.{same_test}
use Rattle.words.specs.Words.{member, inserted, difference}

-- the lowest digit, and the others
pub lowest_digit : (word : ℕ) → member word 0 ≡ eqb (word % 2) 1
unfolding member
lowest_digit word = ap (λ (x : ℕ). eqb (x % 2) 1) (div-one word)

pub higher_digits : (word n : ℕ) → member word (suc n) ≡ member (word / 2) n
unfolding member
higher_digits word n =
    ap (λ (x : ℕ). eqb (word / x % 2) 1) (pow-suc 2 n ∙ mul_comm (2 ^ n) 2)
    ∙ ap (λ (x : ℕ). eqb (x % 2) 1) (sym (div-div-eq-div-mul word 2 (2 ^ n)))

-- the empty set
pub member_zero : (n : ℕ) → member 0 n ≡ false
member_zero zero = lowest_digit 0
member_zero (suc n) = higher_digits 0 n ∙ member_zero n

-- a word has no more members than it has digits
pub member-past : (k word n : ℕ) → word < 2 ^ k → k ≤ n → member word n ≡ false
member-past zero word n small h = subst (λ (w : ℕ). member w n ≡ false) (omega (arith, small)) (member_zero n)
member-past (suc k) word zero small h = absurd (not-suc-le-zero h)
member-past (suc k) word (suc n) small h =
    higher_digits word n
    ∙ member-past k (word / 2) n ((div-lt_iff_lt-mul (zero-lt-suc 1)).1 (subst (λ (x : ℕ). word < x) (pow-suc 2 k) small)) (omega arith)

-- a union
digits_or : (p q : ℕ) → p < 2 → q < 2 → eqb (max p q % 2) 1 ≡ (eqb p 1 || eqb q 1)
digits_or zero zero h g = refl
digits_or zero (suc zero) h g = refl
digits_or zero (suc (suc q)) h g = absurd (omega arith)
digits_or (suc zero) zero h g = refl
digits_or (suc zero) (suc zero) h g = refl
digits_or (suc zero) (suc (suc q)) h g = absurd (omega arith)
digits_or (suc (suc p)) q h g = absurd (omega arith)

lowest_or : (a b : ℕ) → eqb (bit_or a b % 2) 1 ≡ (eqb (a % 2) 1 || eqb (b % 2) 1)
lowest_or a b =
    ap (λ (x : ℕ). eqb (x % 2) 1) (or_step a b)
    ∙ ap (λ (x : ℕ). eqb x 1) (mul-add-mod_self_right (bit_or (a / 2) (b / 2)) 2 (max (a % 2) (b % 2)))
    ∙ digits_or (a % 2) (b % 2) (mod-lt a (zero-lt-suc 1)) (mod-lt b (zero-lt-suc 1))

pub member_or : (a b n : ℕ) → member (bit_or a b) n ≡ (member a n || member b n)
unfolding member
member_or a b n = ap (λ (x : ℕ). eqb (x % 2) 1) (or_shr a b n) ∙ lowest_or (a / 2 ^ n) (b / 2 ^ n)

-- a common part
digits_and : (p q : ℕ) → p < 2 → q < 2 → eqb (min p q % 2) 1 ≡ (eqb p 1 && eqb q 1)
digits_and zero zero h g = refl
digits_and zero (suc zero) h g = refl
digits_and zero (suc (suc q)) h g = absurd (omega arith)
digits_and (suc zero) zero h g = refl
digits_and (suc zero) (suc zero) h g = refl
digits_and (suc zero) (suc (suc q)) h g = absurd (omega arith)
digits_and (suc (suc p)) q h g = absurd (omega arith)

lowest_and : (a b : ℕ) → eqb (bit_and a b % 2) 1 ≡ (eqb (a % 2) 1 && eqb (b % 2) 1)
lowest_and a b =
    ap (λ (x : ℕ). eqb (x % 2) 1) (and_step a b)
    ∙ ap (λ (x : ℕ). eqb x 1) (mul-add-mod_self_right (bit_and (a / 2) (b / 2)) 2 (min (a % 2) (b % 2)))
    ∙ digits_and (a % 2) (b % 2) (mod-lt a (zero-lt-suc 1)) (mod-lt b (zero-lt-suc 1))

pub member_and : (a b n : ℕ) → member (bit_and a b) n ≡ (member a n && member b n)
unfolding member
member_and a b n = ap (λ (x : ℕ). eqb (x % 2) 1) (and_shr a b n) ∙ lowest_and (a / 2 ^ n) (b / 2 ^ n)

-- a difference: of the digits of a word each other one
turned : (p q : ℕ) → p + q ≡ 1 → eqb p 1 ≡ not (eqb q 1)
turned zero zero h = absurd (omega arith)
turned zero (suc zero) h = refl
turned zero (suc (suc q)) h = absurd (omega arith)
turned (suc zero) zero h = refl
turned (suc p) (suc q) h = absurd (omega arith)
turned (suc (suc p)) zero h = absurd (omega arith)

member_not : (k word n : ℕ) → word < 2 ^ k → n < k → member ((2 ^ k - 1) - word) n ≡ not (member word n)
member_not zero word n small h = absurd (not-suc-le-zero h)
member_not (suc k) word zero small h =
    let twice = pow-suc 2 k in
    lowest_digit ((2 ^ suc k - 1) - word)
    ∙ turned (((2 ^ suc k - 1) - word) % 2) (word % 2) (omega (arith, twice))
    ∙ ap not (sym (lowest_digit word))
member_not (suc k) word (suc n) small h =
    let twice = pow-suc 2 k in
    let half : ((2 ^ suc k - 1) - word) / 2 ≡ (2 ^ k - 1) - word / 2 = omega (arith, twice) in
    higher_digits ((2 ^ suc k - 1) - word) n
    ∙ ap (λ (w : ℕ). member w n) half
    ∙ member_not k (word / 2) n (omega (arith, twice)) (omega arith)
    ∙ ap not (sym (higher_digits word n))

pub member-difference : (word other n : ℕ) → other < 2 ^ nodes → n < nodes → member (difference word other) n ≡ (member word n && not (member other n))
unfolding difference
member-difference word other n small h =
    member_and word ((2 ^ nodes - 1) - other) n ∙ ap (λ (b : Bool). member word n && b) (member_not nodes other n small h)

-- a word is determined by what is in it
pub members_one : (k a b : ℕ) → a < 2 ^ k → b < 2 ^ k → ((n : ℕ) → n < k → member a n ≡ member b n) → a ≡ b
members_one zero a b ha hb same = omega arith
members_one (suc k) a b ha hb same =
    let twice = pow-suc 2 k in
    let above : (n : ℕ) → n < k → member (a / 2) n ≡ member (b / 2) n =
    λ n h. sym (higher_digits a n) ∙ same (suc n) (omega arith) ∙ higher_digits b n in
    let rest : a / 2 ≡ b / 2 = members_one k (a / 2) (b / 2) (omega (arith, twice)) (omega (arith, twice)) above in
    let digit = sym (lowest_digit a) ∙ same 0 (omega arith) ∙ lowest_digit b in
    let equal : a % 2 ≡ b % 2 = one-digit (a % 2) (b % 2) (mod-lt a (zero-lt-suc 1)) (mod-lt b (zero-lt-suc 1)) digit in
    omega (arith, rest, equal)
  where
    one-digit : (p q : ℕ) → p < 2 → q < 2 → eqb p 1 ≡ eqb q 1 → p ≡ q
    one-digit p q hp hq e = go (eqb q 1) refl
      where
        go : (t : Bool) → eqb q 1 ≡ t → p ≡ q
        go true f = omega (arith, eqb-true p 1 (e ∙ f), eqb-true q 1 f)
        go false f = omega (arith, eqb-false p 1 (e ∙ f), eqb-false q 1 f)

-- sets of which nothing is in both
pub apart_zero : (a b : ℕ) → a < 2 ^ nodes → ((n : ℕ) → n < nodes → (member a n && member b n) ≡ false) → bit_and a b ≡ 0
apart_zero a b small apart =
    members_one nodes (bit_and a b) 0 (lt_of_le_of_lt (and_le_l a b) small) (omega arith) (λ n h. member_and a b n ∙ apart n h ∙ sym (member_zero n))

-- one node alone
pub next_same : (m n : ℕ) → eqb m n ≡ eqb (suc m) (suc n)
next_same m n =
    same_test (eqb m n) (eqb (suc m) (suc n))
    (λ e. eq-eqb (suc m) (suc n) (ap suc (eqb-true m n e)))
    (λ e. eq-eqb m n (omega (arith, eqb-true (suc m) (suc n) e)))

pub member_power : (m n : ℕ) → member (2 ^ m) n ≡ eqb m n
member_power zero zero = lowest_digit 1
member_power zero (suc n) = higher_digits 1 n ∙ member_zero n ∙ sym (ne_eqb 0 (suc n) (λ e. omega (arith, e)))
member_power (suc m) zero =
    lowest_digit (2 ^ suc m)
    ∙ ap (λ (x : ℕ). eqb (x % 2) 1) (pow-suc 2 m)
    ∙ ap (λ (x : ℕ). eqb x 1) (mul-mod_left (2 ^ m) 2)
    ∙ sym (ne_eqb (suc m) 0 (λ e. omega (arith, e)))
member_power (suc m) (suc n) =
    higher_digits (2 ^ suc m) n
    ∙ ap (λ (x : ℕ). member (x / 2) n) (pow-suc 2 m)
    ∙ ap (λ (x : ℕ). member x n) (mul-div_cancel (2 ^ m) (zero-lt-suc 1))
    ∙ member_power m n
    ∙ next_same m n

-- one node more
pub inserted_inside : (word n : ℕ) → n < nodes → bit_or word (1 * 2 ^ n % 2 ^ nodes) ≡ inserted word n
unfolding inserted
inserted_inside word n small =
    rw (lt-ltb n nodes small) (ap (bit_or word) (shl_exact 1 n nodes (omega arith) (omega arith) ∙ one-mul (2 ^ n)))

pub inserted-past : (word n : ℕ) → nodes ≤ n → word ≡ inserted word n
unfolding inserted
inserted-past word n h = rw (le-ltb n nodes h)

pub member-inserted : (word m n : ℕ) → m < nodes → member (inserted word m) n ≡ (member word n || eqb m n)
unfolding inserted
member-inserted word m n small =
    rw (lt-ltb m nodes small) (member_or word (2 ^ m) n ∙ ap (λ (b : Bool). member word n || b) (member_power m n))
