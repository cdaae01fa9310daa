-- The active calls of a site, level by level, under opening, closing and waking: each is one call more or less at its level. Shown once through how
-- many active calls have a level, which determines the counts. Assumes nothing.
use Prim.Native.Nat.{ℕ, zero, suc, ◌+◌, ◌<◌}
use native.Mathlib.Omega.{arith}
use mathlib.Core.Path.{◌≡◌, refl, sym, ap, subst, ◌∙◌}
use mathlib.Core.Bool.{Bool, true, false, ◌&&◌, cond}
use mathlib.Core.List.{List, [], ◌∷◌, ◌++◌}
use mathlib.Core.Option.{some}
use lib.ListN.{length, get_or, drop, replicate, set, length-replicate}
use lib.Seq.{ext_get_or, get_or-set_same, get_or-set_other}
use lib.Dec.{leb, eqb}
use borrow.Author.Tests.{eq-eqb, eqb-true}
use Rattle.ids.specs.Limits.{most_threads}
use Rattle.lists.specs.Count.{sum, one}
use Rattle.lists.specs.Pick.{count, found, without, changed}
use Rattle.lists.proofs.CountLaws.{never_both}
use Rattle.lists.proofs.PickLaws.{count_more, count-without, count-changed}
use Rattle.model.specs.Site.{A, raised}
use Rattle.model.specs.Plan.{Record, six, passes}
use Rattle.model.specs.Net.{Call, level_of, is_on, active_on, at_or_above, counts, activated}
use Rattle.model.proofs.SiteLaws.{A-one, raised-length}
use Rattle.model.proofs.PlaceLaws.{level_small}

-- an active call of level k
unfoldable pub of_level : List Record → ℕ → ℕ → Call → Bool
of_level rs s k c = active_on rs s c && eqb (level_of rs c.node) k

-- one call more of level i, where there is one
abbrev pub more : Bool → List ℕ → ℕ → List ℕ
more b a i = cond b (raised a i) a

raised_at : (a : List ℕ) (i k : ℕ) → i < length a → get_or (raised a i) k 0 ≡ get_or a k 0 + one (eqb i k)
unfolding raised
raised_at a i k h = go (eqb i k) refl
  where
    go : (b : Bool) → eqb i k ≡ b → get_or (set a i (suc (get_or a i 0))) k 0 ≡ get_or a k 0 + one b
    go true e =
        let same = eqb-true i k e in
        subst (λ (j : ℕ). get_or (set a i (suc (get_or a i 0))) j 0 ≡ get_or a j 0 + 1) same (get_or-set_same a i (suc (get_or a i 0)) 0 h ∙ omega arith)
    go false e =
        get_or-set_other a i k (suc (get_or a i 0)) 0 (λ q. never_both (eq-eqb i k (sym q)) e) ∙ omega arith

sum_zeros : (n k : ℕ) → sum (drop k (replicate n 0)) ≡ 0
sum_zeros zero zero = refl
sum_zeros zero (suc k) = refl
sum_zeros (suc n) zero = omega (arith, sum_zeros n 0)
sum_zeros (suc n) (suc k) = sum_zeros n k

get_or_zeros : (n k : ℕ) → ◌≡◌ {A = ℕ} (get_or (replicate n 0) k 0) 0
get_or_zeros zero k = refl
get_or_zeros (suc n) zero = refl
get_or_zeros (suc n) (suc k) = get_or_zeros n k

module _ (rs : List Record) (s : ℕ) where
  pub counts-length : (cs : List Call) → length (counts rs cs s) ≡ most_threads
  unfolding counts
  counts-length [] = length-replicate {A = ℕ} most_threads 0
  counts-length (c ∷ cs) = go (active_on rs s c) (counts-length cs)
    where
      go : (b : Bool) → length (counts rs cs s) ≡ most_threads
          → length (cond b (raised (counts rs cs s) (level_of rs c.node)) (counts rs cs s)) ≡ most_threads
      go true e = raised-length (counts rs cs s) (level_of rs c.node) ∙ e
      go false e = e

  module _ (pass : passes six rs ≡ true) where
    fits : (cs : List Call) (n : ℕ) → level_of rs n < length (counts rs cs s)
    fits cs n = omega (arith, level_small rs pass n, counts-length cs)

    -- "let a[k] be the active calls of level k"
    pub counts_at : (cs : List Call) (k : ℕ) → get_or (counts rs cs s) k 0 ≡ count (of_level rs s k) cs
    unfolding counts count of_level
    counts_at [] k = get_or_zeros most_threads k
    counts_at (c ∷ cs) k = go (active_on rs s c) (counts_at cs k)
      where
        go : (b : Bool) → get_or (counts rs cs s) k 0 ≡ count (of_level rs s k) cs
            → get_or (more b (counts rs cs s) (level_of rs c.node)) k 0 ≡ one (b && eqb (level_of rs c.node) k) + count (of_level rs s k) cs
        go true ih = omega (arith, raised_at (counts rs cs s) (level_of rs c.node) k (fits cs c.node), ih)
        go false ih = omega (arith, ih)

    -- "A[k] the sum of a[j] for all j at or above k": the active calls of level k or higher
    pub A-counts : (cs : List Call) (k : ℕ) → A (counts rs cs s) k ≡ count (at_or_above rs s k) cs
    unfolding A counts count at_or_above
    A-counts [] k = sum_zeros most_threads k
    A-counts (c ∷ cs) k = go (active_on rs s c) (A-counts cs k)
      where
        go : (b : Bool) → A (counts rs cs s) k ≡ count (at_or_above rs s k) cs
            → A (more b (counts rs cs s) (level_of rs c.node)) k ≡ one (b && leb k (level_of rs c.node)) + count (at_or_above rs s k) cs
        go true ih = omega (arith, A-one (counts rs cs s) (level_of rs c.node) k (fits cs c.node), ih)
        go false ih = omega (arith, ih)

    -- Counts are determined by how many active calls have each level

    pub counts_alike : (cs ds : List Call) → ((k : ℕ) → count (of_level rs s k) ds ≡ count (of_level rs s k) cs) → counts rs ds s ≡ counts rs cs s
    counts_alike cs ds same =
        ext_get_or 0 (counts rs ds s) (counts rs cs s) (counts-length ds ∙ sym (counts-length cs))
        (λ k h. counts_at ds k ∙ same k ∙ sym (counts_at cs k))

    counts-raised : (cs ds : List Call) (i : ℕ) → i < most_threads
        → ((k : ℕ) → count (of_level rs s k) ds ≡ count (of_level rs s k) cs + one (eqb i k)) → counts rs ds s ≡ raised (counts rs cs s) i
    counts-raised cs ds i small one_more =
        ext_get_or 0 (counts rs ds s) (raised (counts rs cs s) i) (counts-length ds ∙ sym (raised-length (counts rs cs s) i ∙ counts-length cs))
        (λ k h.
        omega (arith, counts_at ds k, counts_at cs k, one_more k, raised_at (counts rs cs s) i k (omega (arith, counts-length cs))))

    -- one call more, where it is active here
    pub counts_more : (cs ds : List Call) (b : Bool) (i : ℕ) → i < most_threads
        → ((k : ℕ) → count (of_level rs s k) ds ≡ count (of_level rs s k) cs + one (b && eqb i k)) → counts rs ds s ≡ more b (counts rs cs s) i
    counts_more cs ds true i small h = counts-raised cs ds i small h
    counts_more cs ds false i small h = counts_alike cs ds (λ k. omega (arith, h k))

    -- Opening, closing, waking

    pub counts-opened : (cs : List Call) (c : Call) → counts rs (cs ++ (c ∷ [])) s ≡ more (active_on rs s c) (counts rs cs s) (level_of rs c.node)
    unfolding of_level
    counts-opened cs c =
        counts_more cs (cs ++ (c ∷ [])) (active_on rs s c) (level_of rs c.node) (level_small rs pass c.node)
        (λ k. count_more (of_level rs s k) cs c)

    pub counts-closed : (f : Call → Bool) (cs : List Call) (c : Call) → found f cs ≡ some c
        → counts rs cs s ≡ more (active_on rs s c) (counts rs (without f cs) s) (level_of rs c.node)
    unfolding of_level
    counts-closed f cs c e =
        counts_more (without f cs) cs (active_on rs s c) (level_of rs c.node) (level_small rs pass c.node)
        (λ k. omega (arith, count-without f (of_level rs s k) cs c e))

    pub counts-woken : (f : Call → Bool) (cs : List Call) (c : Call) → found f cs ≡ some c → c.active ≡ false
        → counts rs (changed activated f cs) s ≡ more (is_on rs s c) (counts rs cs s) (level_of rs c.node)
    unfolding of_level active_on is_on
    counts-woken f cs c e waits =
        counts_more cs (changed activated f cs) (is_on rs s c) (level_of rs c.node) (level_small rs pass c.node)
        (λ k. omega (arith, count-changed activated f (of_level rs s k) cs c e, ap one (before k), ap one (behind k)))
      where
        before : (k : ℕ) → (is_on rs s c && c.active && eqb (level_of rs c.node) k) ≡ false
        before k = rw waits (go (is_on rs s c))
          where
            go : (b : Bool) → (b && false && eqb (level_of rs c.node) k) ≡ false
            go true = refl
            go false = refl

        behind : (k : ℕ) → (is_on rs s (activated c) && true && eqb (level_of rs c.node) k) ≡ (is_on rs s c && eqb (level_of rs c.node) k)
        behind k = go (is_on rs s c)
          where
            go : (b : Bool) → (b && true && eqb (level_of rs c.node) k) ≡ (b && eqb (level_of rs c.node) k)
            go true = refl
            go false = refl
