-- The arrays hold the tree, height after height: the leaves as they are set, and then each place made from its two halves, which are the two
-- halves of its tree node. Places past the last level below T keep what they held at first, which is what their tree nodes have. Both arrays
-- are filled in the same way, so this is shown of one of them, over what it holds. Assumes nothing.
use Prim.Native.Nat.{ℕ, zero, suc, ◌+◌, ◌-◌, ◌*◌, ◌/◌, ◌^◌, ◌≤◌, ◌<◌, min}
use native.Mathlib.Nat.{le_refl, mul-le-mul_left, mul-le-mul_right, le_of_mul-le-mul_right, lt_of_mul-lt-mul_right, eq-or-lt_of_le}
use native.Mathlib.Omega.{arith}
use lib.Pow.{pow_pos, pow_mono, pow-add}
use lib.ListN.{length, get_or, replicate, length-replicate, get_or-replicate}
use borrow.Author.Tests.{lt-ltb}
use mathlib.Core.Path.{◌≡◌, refl, sym, ap, ap₂, subst, ◌∙◌}
use mathlib.Core.Logic.{⊎_elim}
use mathlib.Core.Bool.{Bool, cond}
use mathlib.Core.List.{List}
use Rattle.ids.specs.Limits.{most_threads}
use Rattle.lists.specs.Fill.{Filled}
use Rattle.lists.proofs.CountLaws.{lt_or_ge}
use Rattle.model.specs.Tree.{size, root_height}
use Rattle.tree.proofs.StoredLaws.{size_most, size_empty, stored_none, covers_right}
use Rattle.tree.proofs.WalkLaws.{leaf_place}
use Rattle.tree.specs.Places.{places, unlimited, no_slack, TreeCounts, slack_byte, first_level, NodesStand, Built}
use Rattle.tree.specs.Places.{leaf_size, leaf_slack, pair_size, pair_slack, RowJoinable}

-- the places of a height: all lie from `first` on, and those that cover a level below T lie before `end`
pub record TreeRow (T first end : ℕ) : Type 0 where
  pub height : ℕ
  pub rest : ℕ
  pub heights : rest + height ≡ root_height
  pub first_is : first ≡ 2 ^ rest
  pub end_low : most_threads + T ≤ end * 2 ^ height
  pub end_high : end * 2 ^ height < most_threads + T + 2 ^ height

-- an array that holds the tree nodes' numbers up to a height; the places of greater heights, before `first`, are as they were at first
pub record Grown (f : ℕ → ℕ → ℕ) (empty height first : ℕ) (cells : List ℕ) : Type 0 where
  pub long : length cells ≡ places
  pub stands : NodesStand height f cells
  pub fresh : (n : ℕ) → n < first → get_or cells n 0 ≡ empty

-- the whole state: a row, and both arrays up to its height
pub record Growing (T : ℕ) (a sizes slacks : List ℕ) (first end : ℕ) : Type 0 where
  pub row : TreeRow T first end
  pub sized : Grown (size a) 0 row.height first sizes
  pub slacked : Grown (slack_byte T a) unlimited row.height first slacks

-- One array

module _ (T : ℕ) (most : T ≤ most_threads) (f : ℕ → ℕ → ℕ) (empty : ℕ) (none : (h k : ℕ) → T ≤ k → f h k ≡ empty) where
  -- the leaves
  leaf_grown : (leaf : ℕ → ℕ) (cells : List ℕ) → ((n : ℕ) → most_threads ≤ n → n < most_threads + T → leaf n ≡ f 0 (n - most_threads))
      → Filled leaf most_threads (most_threads + T) (replicate places empty) cells → Grown f empty 0 most_threads cells
  leaf_grown leaf cells set w =
      record {
        long = w.long ∙ length-replicate {A = ℕ} places empty;
        stands = λ h n l low high.
            let z : 0 ≡ h = omega arith in
            let p = leaf_place h n (sym z) low high in
            let e : n - most_threads ≡ first_level 0 n = omega arith in
            subst (λ (j : ℕ). get_or cells n 0 ≡ f j (first_level j n)) z (at n p.0 p.1 ∙ ap (f 0) e);
        fresh = λ n l. w.outside n (λ p q. omega arith) ∙ get_or-replicate places n empty 0 (omega arith);
      }
    where
      at : (n : ℕ) → most_threads ≤ n → n < places → get_or cells n 0 ≡ f 0 (n - most_threads)
      at n low high =
          ⊎_elim
          (λ (p : n < most_threads + T). w.inside n low p ∙ set n low p)
          (λ (p : most_threads + T ≤ n).
          w.outside n (λ l u. omega arith) ∙ get_or-replicate places n empty 0 high ∙ sym (none 0 (n - most_threads) (omega arith)))
          (lt_or_ge n (most_threads + T))

-- Both arrays at the leaves
pub growing_leaves : (T : ℕ) (a : List ℕ) → TreeCounts T a → (sizes slacks : List ℕ)
    → Filled (leaf_size a) most_threads (most_threads + T) (replicate places 0) sizes
    → Filled (leaf_slack T a) most_threads (most_threads + T) (replicate places unlimited) slacks
    → Growing T a sizes slacks most_threads (most_threads + T)
unfolding size slack_byte
growing_leaves T a ok sizes slacks w v =
    record {
      row = record { height = 0; rest = root_height; heights = refl; first_is = refl; end_low = omega arith; end_high = omega arith };
      sized = leaf_grown T ok.most (size a) 0 (size_empty T a ok) (leaf_size a) sizes (λ n l u. refl) w;
      slacked =
          leaf_grown T ok.most (slack_byte T a) unlimited (stored_none T a ok) (leaf_slack T a) slacks
          (λ n l u.
          let k = n - most_threads in
          sym (ap (λ (b : Bool). cond b (no_slack + T - k - get_or a k 0) unlimited) (lt-ltb k T (omega arith))))
          v;
    }

-- One height more
module _ (T : ℕ) (a : List ℕ) (ok : TreeCounts T a) (first end : ℕ) (row : TreeRow T first end) (more : 1 < first) where
  P : ℕ
  P = 2 ^ row.height

  positive : 0 < P
  unfolding P
  positive = pow_pos row.height

  -- all places of this height lie from `first` up to twice that, and those of the next height from half of it on
  shape : first * P ≡ most_threads
  unfolding P
  shape = ap (λ (f : ℕ). f * 2 ^ row.height) row.first_is ∙ sym (pow-add 2 row.rest row.height) ∙ ap (λ (e : ℕ). 2 ^ e) row.heights

  rest_some : (r : ℕ) → first ≡ 2 ^ r → (q : ℕ) × (r ≡ suc q)
  rest_some zero e = absurd (omega arith)
  rest_some (suc q) e = (q, refl)

  even : 2 * (first / 2) ≡ first
  even = let q = rest_some row.rest row.first_is in omega (arith, row.first_is ∙ ap (λ (e : ℕ). 2 ^ e) q.1)

  first_most : first ≤ most_threads
  first_most = omega (arith, shape, mul-le-mul_left first positive)

  end_above : first < end
  unfolding P
  end_above = let h : first * P < end * P = omega (arith, shape, row.end_low, ok.some) in lt_of_mul-lt-mul_right P h

  end_below : end < 2 * first + 1
  unfolding P
  end_below = let h : end * P < (2 * first + 1) * P = omega (arith, shape, row.end_high, ok.most) in lt_of_mul-lt-mul_right P h

  -- the end of the next height's row
  next_low : end * P ≤ (end + 1) / 2 * (2 * P)
  next_low = omega (arith, mul-le-mul_right P (halved end))
    where
      halved : (n : ℕ) → n ≤ 2 * ((n + 1) / 2)
      halved n = omega arith

  next_high : (end + 1) / 2 * (2 * P) ≤ (end + 1) * P
  next_high = omega (arith, mul-le-mul_right P (halved end))
    where
      halved : (n : ℕ) → 2 * ((n + 1) / 2) ≤ n + 1
      halved n = omega arith

  pub next_row : TreeRow T (first / 2) ((end + 1) / 2)
  unfolding P
  next_row =
      let q = rest_some row.rest row.first_is in
      let up : 2 ^ suc row.height ≡ 2 * 2 ^ row.height = omega arith in
      record {
        height = suc row.height;
        rest = q.0;
        heights = omega (arith, row.heights, q.1);
        first_is = omega (arith, row.first_is ∙ ap (λ (e : ℕ). 2 ^ e) q.1);
        end_low = rw up (omega (arith, next_low, row.end_low));
        end_high = rw up (omega (arith, next_high, row.end_high));
      }

  -- the first level of place n of the next height
  level : ℕ → ℕ
  level n = n * (2 * P) - most_threads

  level_is : (n : ℕ) → first_level (suc row.height) n ≡ level n
  unfolding level P
  level_is n = let e : 2 ^ suc row.height ≡ 2 * 2 ^ row.height = omega arith in ap (λ (x : ℕ). n * x - most_threads) e

  place_level : (n : ℕ) → n < (end + 1) / 2 → level n < T
  unfolding level P
  place_level n h = omega (arith, mul-le-mul_right (2 * P) h, next_high, row.end_high, ok.some)

  past_level : (n : ℕ) → (end + 1) / 2 ≤ n → T ≤ level n
  unfolding level P
  past_level n h = omega (arith, mul-le-mul_right (2 * P) h, next_low, row.end_low)

  -- a place of the next height
  record Place (n : ℕ) : Type 0 where
    low : most_threads ≤ n * (2 * P)
    high : (n + 1) * (2 * P) ≤ places

  row-place : (n : ℕ) → first / 2 ≤ n → n < first → Place n
  row-place n from to =
      record {
        low = omega (arith, mul-le-mul_right P from, shape, ap (λ (f : ℕ). f * P) even);
        high = omega (arith, mul-le-mul_right P to, shape);
      }

  place_from : (n : ℕ) → Place n → first / 2 ≤ n
  place_from n p =
      let h : first / 2 * (2 * P) ≤ n * (2 * P) = omega (arith, p.low, shape, ap (λ (f : ℕ). f * P) even) in
      le_of_mul-le-mul_right h (omega (arith, positive))

  place_before : (n : ℕ) → Place n → n < first
  place_before n p =
      let h : (n + 1) * (2 * P) ≤ first * (2 * P) = omega (arith, p.high, shape) in
      omega (arith, le_of_mul-le-mul_right h (omega (arith, positive)))

  next_end : (end + 1) / 2 ≤ first
  next_end = omega (arith, end_below)

  -- One array, whose places are made from their halves by `pair`
  module _ (f : ℕ → ℕ → ℕ) (empty : ℕ) (cells : List ℕ) (g : Grown f empty row.height first cells) where
    left_half : (n : ℕ) → Place n → get_or cells (2 * n) 0 ≡ f row.height (level n)
    unfolding level P
    left_half n p =
        let e : first_level row.height (2 * n) ≡ level n = omega (arith, p.low) in
        g.stands row.height (2 * n) (le_refl _) (omega (arith, p.low)) (omega (arith, p.high)) ∙ ap (f row.height) e

    right_half : (n : ℕ) → Place n → get_or cells (2 * n + 1) 0 ≡ f row.height (level n + P)
    unfolding level P
    right_half n p =
        let e : first_level row.height (2 * n + 1) ≡ level n + P = omega (arith, p.low) in
        g.stands row.height (2 * n + 1) (le_refl _) (omega (arith, p.low)) (omega (arith, p.high)) ∙ ap (f row.height) e

    next_grown : (none : (h k : ℕ) → T ≤ k → f h k ≡ empty) (pair : ℕ → ℕ) (made : List ℕ)
        → ((n : ℕ) → Place n → pair n ≡ f (suc row.height) (level n))
        → Filled pair (first / 2) ((end + 1) / 2) cells made → Grown f empty (suc row.height) (first / 2) made
    unfolding P
    next_grown none pair made joins w =
        record {
          long = w.long ∙ g.long;
          stands = λ h n l low high.
              ⊎_elim
              (λ (e : h ≡ suc row.height).
              subst (λ (j : ℕ). get_or made n 0 ≡ f j (first_level j n)) (sym e)
              (new n (record { low = rw up at (rw e at low); high = rw up at (rw e at high) }) ∙ ap (f (suc row.height)) (sym (level_is n))))
              (λ (e : h < suc row.height). w.outside n (lower h n (omega arith) low) ∙ g.stands h n (omega arith) low high)
              (eq-or-lt_of_le l);
          fresh = λ n l. w.outside n (λ p u. omega arith) ∙ g.fresh n (omega (arith, even));
        }
      where
        up : 2 ^ suc row.height ≡ 2 * 2 ^ row.height
        up = omega arith

        new : (n : ℕ) → Place n → get_or made n 0 ≡ f (suc row.height) (level n)
        new n p =
            ⊎_elim
            (λ (q : n < (end + 1) / 2). w.inside n (place_from n p) q ∙ joins n p)
            (λ (q : (end + 1) / 2 ≤ n).
            w.outside n (λ l u. omega arith) ∙ g.fresh n (place_before n p) ∙ sym (none (suc row.height) (level n) (past_level n q)))
            (lt_or_ge n ((end + 1) / 2))

        -- a place of a lower height is none of those
        lower : (h n : ℕ) → h ≤ row.height → most_threads ≤ n * 2 ^ h → first / 2 ≤ n → n < (end + 1) / 2 → ⊥
        lower h n l low from to =
            let p : n * 2 ^ h ≤ n * P = mul-le-mul_left n (pow_mono l) in
            let q : first * P ≤ n * P = omega (arith, shape) in
            omega (arith, le_of_mul-le-mul_right q positive, next_end)

  -- Both arrays
  module _ (sizes slacks : List ℕ)
      (sized : Grown (size a) 0 row.height first sizes)
      (slacked : Grown (slack_byte T a) unlimited row.height first slacks) where
    joined_size : (n : ℕ) → Place n → pair_size sizes n ≡ size a (suc row.height) (level n)
    unfolding size P
    joined_size n p = ap₂ ◌+◌ (left_half (size a) 0 sizes sized n p) (right_half (size a) 0 sizes sized n p)

    joined_slack : (n : ℕ) → Place n → pair_slack sizes slacks n ≡ slack_byte T a (suc row.height) (level n)
    unfolding slack_byte P
    joined_slack n p =
        ap₂ min
        (right_half (slack_byte T a) unlimited slacks slacked n p)
        (ap₂ ◌-◌ (left_half (slack_byte T a) unlimited slacks slacked n p) (right_half (size a) 0 sizes sized n p))

    pub can_join : RowJoinable sizes slacks (first / 2) ((end + 1) / 2)
    unfolding P
    can_join =
        record {
          rising = omega (arith, end_above);
          inside = omega (arith, next_end, first_most);
          small = λ n from to.
              omega (arith, joined_size n (row-place n from (omega (arith, next_end))), size_most T a ok (suc row.height) (level n), ok.most);
          covered = λ n from to.
              let p = row-place n from (omega (arith, next_end)) in
              omega (
                arith,
                right_half (size a) 0 sizes sized n p,
                left_half (slack_byte T a) unlimited slacks slacked n p,
                covers_right T a ok row.height (level n) (place_level n to),
              );
        }

    pub growing_more : (sizes' slacks' : List ℕ)
        → Filled (pair_size sizes) (first / 2) ((end + 1) / 2) sizes sizes'
        → Filled (pair_slack sizes slacks) (first / 2) ((end + 1) / 2) slacks slacks'
        → Growing T a sizes' slacks' (first / 2) ((end + 1) / 2)
    unfolding next_row
    growing_more sizes' slacks' w v =
        record {
          row = next_row;
          sized = next_grown (size a) 0 sizes sized (size_empty T a ok) (pair_size sizes) sizes' joined_size w;
          slacked = next_grown (slack_byte T a) unlimited slacks slacked (stored_none T a ok) (pair_slack sizes slacks) slacks' joined_slack v;
        }

-- at the last place the whole tree stands
pub grown_whole : {T : ℕ} {a sizes slacks : List ℕ} {first end : ℕ} → first ≤ 1 → Growing T a sizes slacks first end → Built root_height T a sizes slacks
grown_whole {T} {a} {sizes} {slacks} {first} small g = go g.row.rest g.row.first_is g.row.heights
  where
    go : (r : ℕ) → first ≡ 2 ^ r → r + g.row.height ≡ root_height → Built root_height T a sizes slacks
    go zero e h =
        let six : g.row.height ≡ root_height = omega arith in
        record {
          size_at = subst (λ (n : ℕ). NodesStand n (size a) sizes) six g.sized.stands;
          slack_at = subst (λ (n : ℕ). NodesStand n (slack_byte T a) slacks) six g.slacked.stands;
        }
    go (suc r) e h = absurd (omega (arith, pow_pos r))
