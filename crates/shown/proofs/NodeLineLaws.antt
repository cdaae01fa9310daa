-- The lines of the nodes: each text grows by that of one number more, and how long it can become. Assumes nothing.
use Prim.Native.Nat.{ℕ, zero, suc, ◌+◌, ◌*◌, ◌/◌, ◌≤◌, ◌<◌}
use native.Mathlib.Numerals.{add-one}
use native.Mathlib.Omega.{arith}
use mathlib.Core.Path.{◌≡◌, refl, ap, ap₂, ◌∙◌}
use mathlib.Core.Logic.{⊎_elim}
use mathlib.Core.Bool.{Bool, true, false}
use mathlib.Core.List.{[], ◌∷◌, ◌++◌}
use lib.ListN.{length, length-append}
use borrow.Author.Tests.{ne_eqb}
use Rattle.lists.proofs.CountLaws.{lt_or_ge}
use Rattle.ids.specs.Limits.{nodes}
use Rattle.model.specs.PlanValue.{nowhere, somewhere}
use Rattle.model.specs.Text.{Text, ascii, decimal, spaced, newline}
use Rattle.text.proofs.DigitLaws.{decimal-one, decimal_longer}
use Rattle.shown.specs.Lines.{in_turn, item, items, node_text, node_texts}
use Rattle.shown.specs.Room.{item_most, line_most}

-- One number more

pub items_none : (row : ℕ → Bool) → [] ≡ items row 0
unfolding items in_turn
items_none row = refl

pub items_more : (row : ℕ → Bool) (k : ℕ) → items row k ++ item (row k) k ≡ items row (k + 1)
unfolding items in_turn
items_more row k = rw (add-one k)

pub texts_none : (listed : ℕ → Bool) (depends : ℕ → ℕ → Bool) → [] ≡ node_texts listed depends 0
unfolding node_texts in_turn
texts_none listed depends = refl

pub texts_more : (listed : ℕ → Bool) (depends : ℕ → ℕ → Bool) (k : ℕ)
    → node_texts listed depends k ++ node_text (listed k) (depends k) k ≡ node_texts listed depends (k + 1)
unfolding node_texts in_turn
texts_more listed depends k = rw (add-one k)

-- A line is there where its node is somewhere

module _ (row : ℕ → Bool) (n place : ℕ) where
  pub line_none : place ≡ nowhere → [] ≡ node_text (somewhere place) row n
  unfolding node_text
  line_none h = rw h

  pub line_there : (place ≡ nowhere → ⊥) → decimal n ++ (58 ∷ []) ++ items row nodes ++ (10 ∷ []) ≡ node_text (somewhere place) row n
  unfolding node_text
  line_there h = rw (ne_eqb place nowhere h)

-- Where the parts are the same

in_turn_same : (f g : ℕ → Text) (k : ℕ) → ((i : ℕ) → i < k → f i ≡ g i) → in_turn f k ≡ in_turn g k
unfolding in_turn
in_turn_same f g zero h = refl
in_turn_same f g (suc k) h = ap₂ ◌++◌ (in_turn_same f g k (λ i l. h i (omega arith))) (h k (omega arith))

items_same : (f g : ℕ → Bool) (k : ℕ) → ((m : ℕ) → m < k → f m ≡ g m) → items f k ≡ items g k
unfolding items
items_same f g k h = in_turn_same (λ m. item (f m) m) (λ m. item (g m) m) k (λ m l. ap (λ (b : Bool). item b m) (h m l))

line_same : (b : Bool) (f g : ℕ → Bool) (n : ℕ) → items f nodes ≡ items g nodes → node_text b f n ≡ node_text b g n
unfolding node_text
line_same true f g n e = ap (λ (t : Text). decimal n ++ ascii ":" ++ t ++ newline) e
line_same false f g n e = refl

pub texts_same : (a b : ℕ → Bool) (f g : ℕ → ℕ → Bool) → ((n : ℕ) → n < nodes → a n ≡ b n)
    → ((n m : ℕ) → n < nodes → m < nodes → f n m ≡ g n m) → node_texts a f nodes ≡ node_texts b g nodes
unfolding node_texts
texts_same a b f g there same =
    in_turn_same (λ n. node_text (a n) (f n) n) (λ n. node_text (b n) (g n) n) nodes
    (λ n h.
    ap (λ (t : Bool). node_text t (f n) n) (there n h)
    ∙ line_same (b n) (f n) (g n) n (items_same (f n) (g n) nodes (λ m l. same n m h l)))

-- How long they can become

pub decimal_short : (n : ℕ) → n < 100 → length (decimal n) ≤ 2
decimal_short n h = ⊎_elim one two (lt_or_ge n 10)
  where
    one : n < 10 → length (decimal n) ≤ 2
    one l = omega (arith, ap length (decimal-one n l))

    two : 10 ≤ n → length (decimal n) ≤ 2
    two l = omega (arith, decimal_longer n l (omega arith), ap length (decimal-one (n / 10) (omega arith)))

item_short : (b : Bool) (m : ℕ) → m < nodes → length (item b m) ≤ item_most
unfolding spaced
item_short true m h = omega (arith, decimal_short m (omega arith))
item_short false m h = omega arith

pub items_most : (row : ℕ → Bool) (k : ℕ) → k ≤ nodes → length (items row k) ≤ k * item_most
unfolding items in_turn
items_most row zero h = omega arith
items_most row (suc k) h =
    omega (arith, length-append (items row k) (item (row k) k), items_most row k (omega arith), item_short (row k) k (omega arith))

line_short : (listed : Bool) (row : ℕ → Bool) (n : ℕ) → n < nodes → length (node_text listed row n) ≤ line_most
unfolding node_text
line_short true row n h =
    simp length-append (omega (arith, decimal_short n (omega arith), items_most row nodes (omega arith)))
line_short false row n h = omega arith

pub texts_most : (listed : ℕ → Bool) (depends : ℕ → ℕ → Bool) (k : ℕ) → k ≤ nodes → length (node_texts listed depends k) ≤ k * line_most
unfolding node_texts in_turn
texts_most listed depends zero h = omega arith
texts_most listed depends (suc k) h =
    omega (
      arith,
      length-append (node_texts listed depends k) (node_text (listed k) (depends k) k),
      texts_most listed depends k (omega arith),
      line_short (listed k) (depends k) k (omega arith),
    )
