-- How a table of bytes is filled row by row, and what a table that tells a relation shows: the table itself, since each byte is 0 or 1. Assumes nothing.
use Prim.Native.Nat.{ℕ, ◌+◌, ◌*◌, ◌/◌, ◌%◌, ◌<◌, ◌≤◌}
use mathlib.Core.Path.{◌≡◌, refl, sym, ◌∙◌, subst}
use mathlib.Core.Bool.{Bool, true, false}
use mathlib.Core.List.{List}
use mathlib.Core.Logic.Iff
use mathlib.Core.Logic.{◌↔◌, ⊎_elim}
use native.Mathlib.Omega.{arith}
use lib.Dec.{T, eqb}
use lib.ListN.{length, get_or, get_or-eq_default}
use lib.Seq.{ext_get_or}
use mir.Val.{bool_byte}
use borrow.Author.Count.{below_more}
use borrow.Author.Tests.{eqb-true, eqb-false}
use Rattle.ids.specs.Limits.{nodes}
use Rattle.lists.proofs.CountLaws.{lt_or_ge}
use Rattle.words.specs.Words.{member}
use Rattle.printable.specs.Tables.{TableTells}
use Rattle.printable.specs.Filling.{ByEdge, DependsOn, Rowed}

-- what a table tells determines it
pub tells_one : (a b : List ℕ) (relation : ℕ → ℕ → Type 0) → TableTells a relation → TableTells b relation → a ≡ b
tells_one a b relation one two = ext_get_or 0 a b (one.long ∙ sym two.long) same
  where
    pair : (n m : ℕ) → n < nodes → m < nodes → get_or a (nodes * n + m) 0 ≡ get_or b (nodes * n + m) 0
    pair n m hn hm = cases (eqb (get_or a (nodes * n + m) 0) 1) refl
      where
        cases : (t : Bool) → eqb (get_or a (nodes * n + m) 0) 1 ≡ t → get_or a (nodes * n + m) 0 ≡ get_or b (nodes * n + m) 0
        cases true e =
            let lighted = eqb-true (get_or a (nodes * n + m) 0) 1 e in
            lighted ∙ sym ((two.told n m hn hm).1 ((one.told n m hn hm).0 lighted))
        cases false e =
            let unlit = eqb-false (get_or a (nodes * n + m) 0) 1 e in
            let other : get_or b (nodes * n + m) 0 ≡ 1 → ⊥ = λ f. unlit ((one.told n m hn hm).1 ((two.told n m hn hm).0 f)) in
            omega (arith, one.small (nodes * n + m), two.small (nodes * n + m))

    same : (x : ℕ) → x < length a → get_or a x 0 ≡ get_or b x 0
    same x h =
        let place : nodes * (x / nodes) + x % nodes ≡ x = omega arith in
        subst (λ (y : ℕ). get_or a y 0 ≡ get_or b y 0) place (pair (x / nodes) (x % nodes) (omega (arith, one.long)) (omega arith))

-- All rows: a byte is 1 where its statement holds, and else 0
pub record Byte (byte : ℕ) (statement : Type 0) : Type 0 where
  pub small : byte ≤ 1
  pub told : (byte ≡ 1) ↔ statement

test_byte : {statement : Type 0} (t : Bool) → T t ↔ statement → Byte (bool_byte t) statement
test_byte true decides = record { small = omega arith; told = ((λ e. decides.0 tt), (λ w. refl)) }
test_byte false decides = record { small = omega arith; told = ((λ e. absurd (omega arith)), (λ w. absurd (decides.1 w))) }

pub record Filling (calls paths cells : List ℕ) (n : ℕ) : Type 0 where
  pub done : (i : ℕ) → i < n → (m : ℕ) → m < nodes → Byte (get_or cells (nodes * i + m) 0) (ByEdge calls paths i m)
  pub long : length cells ≡ nodes * nodes
  pub up_to : n ≤ nodes

pub filling_more : {calls paths cells next : List ℕ} {n : ℕ} (word : ℕ) → Filling calls paths cells n → n < nodes
    → DependsOn calls paths n word → Rowed cells next n (member word) nodes → Filling calls paths next (n + 1)
filling_more {calls} {paths} {cells} {next} {n} word so_far inside decides row =
    record {
      done =
          below_more (λ i. (m : ℕ) → m < nodes → Byte (get_or next (nodes * i + m) 0) (ByEdge calls paths i m)) n
          (λ i h m hm. subst (λ (b : ℕ). Byte b (ByEdge calls paths i m)) (sym (row.other i m (λ e. omega arith) hm)) (so_far.done i h m hm))
          (λ m hm. subst (λ (b : ℕ). Byte b (ByEdge calls paths n m)) (sym (row.done m hm)) (test_byte (member word m) (decides m)));
      long = row.long ∙ so_far.long;
      up_to = omega arith;
    }

-- the whole table
pub filled_tells : {calls paths cells : List ℕ} (relation : ℕ → ℕ → Type 0) → Filling calls paths cells nodes
    → ((n m : ℕ) → ByEdge calls paths n m ↔ relation n m) → TableTells cells relation
filled_tells {calls} {paths} {cells} relation so same =
    record { long = so.long; small = small; told = λ n m hn hm. Iff.trans (so.done n hn m hm).told (same n m) }
  where
    small : (x : ℕ) → get_or cells x 0 ≤ 1
    small x =
        ⊎_elim
        (λ (p : x < nodes * nodes).
        let place : nodes * (x / nodes) + x % nodes ≡ x = omega arith in
        subst (λ (y : ℕ). get_or cells y 0 ≤ 1) place (so.done (x / nodes) (omega arith) (x % nodes) (omega arith)).small)
        (λ (p : nodes * nodes ≤ x). omega (arith, get_or-eq_default cells 0 {n = x} (omega (arith, so.long))))
        (lt_or_ge x (nodes * nodes))
