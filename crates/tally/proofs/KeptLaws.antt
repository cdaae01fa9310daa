-- The counts that a value keeps are those of its active calls exactly where they are the same as those counted: row by row, place by place. Assumes nothing.
use Prim.Native.Nat.{ℕ, ◌+◌, ◌*◌, ◌/◌, ◌%◌, ◌≤◌, ◌<◌}
use native.Mathlib.Omega.{arith}
use mathlib.Core.Path.{◌≡◌, refl, sym, ap, subst, ◌∙◌}
use mathlib.Core.Bool.{Bool, true, false, ◌&&◌}
use mathlib.Core.List.{List, [], ◌∷◌}
use lib.ListN.{length, get_or}
use lib.Dec.{eqb}
use lib.Pointwise.{pointwise}
use Rattle.std.proofs.lemmas.Grind.{same_number_lists}
use Rattle.ids.specs.Limits.{sites, most_threads}
use Rattle.lists.specs.Tabled.{tabled}
use Rattle.lists.proofs.CountLaws.{never_both, not_true_false, every_at, every-all}
use Rattle.lists.proofs.TabledLaws.{get_or-tabled, tabled-is}
use Rattle.model.specs.Plan.{Record}
use Rattle.model.specs.Net.{Call, counts}
use Rattle.model.specs.NetRules.{same_list, book_kept}
use Rattle.model.proofs.NetRuleLaws.{same_list-is, list_same}
use Rattle.model.proofs.CountsLaws.{counts-length}
use Rattle.value.specs.View.{row_of}
use Rattle.tally.specs.Tally.{CountsTell, TooMany}

-- the comparison of two lists is the definitions' test
same_tests : (xs ys : List ℕ) → pointwise eqb xs ys ≡ same_list xs ys
same_tests [] [] = refl
same_tests [] (y ∷ ys) = refl
same_tests (x ∷ xs) [] = refl
same_tests (x ∷ xs) (y ∷ ys) = ap (λ (b : Bool). eqb x y && b) (same_tests xs ys)

module _ (rs : List Record) (cs : List Call) (numbers : List ℕ) where
  abbrev kept : Bool
  kept = book_kept (record { plan = rs; calls = cs }) (row_of numbers)

  -- the rows are the counts, and so is each place
  kept_at : kept ≡ true → (s k : ℕ) → s < sites → k < most_threads → get_or numbers (most_threads * s + k) 0 ≡ get_or (counts rs cs s) k 0
  unfolding book_kept row_of
  kept_at e s k hs hk =
      sym (get_or-tabled most_threads (λ j. get_or numbers (most_threads * s + j) 0) k 0 hk)
      ∙ ap (λ (l : List ℕ). get_or l k 0)
      (same_list-is (row_of numbers s) (counts rs cs s) (every_at sites (λ t. same_list (row_of numbers t) (counts rs cs t)) e s hs))

  at_kept : ((s k : ℕ) → s < sites → k < most_threads → get_or numbers (most_threads * s + k) 0 ≡ get_or (counts rs cs s) k 0) → kept ≡ true
  unfolding book_kept row_of
  at_kept same =
      every-all sites (λ t. same_list (row_of numbers t) (counts rs cs t))
      (λ s hs.
      let row : counts rs cs s ≡ tabled most_threads (λ k. get_or numbers (most_threads * s + k) 0) =
      tabled-is most_threads (λ k. get_or numbers (most_threads * s + k) 0) (counts rs cs s) 0 (counts-length rs s cs) (λ k hk. sym (same s k hs hk))
      in
      subst (λ (l : List ℕ). same_list l (counts rs cs s) ≡ true) row (list_same (counts rs cs s)))

  -- a count that no byte holds is none of the value's
  pub many_fail : ((i : ℕ) → get_or numbers i 0 ≤ 255) → TooMany rs cs → false ≡ kept
  many_fail bytes over =
      sym
      (not_true_false kept
      (λ e.
      absurd
      (omega
      (arith, over.many, bytes (most_threads * over.site + over.level), kept_at e over.site over.level over.site_inside over.level_inside))))

  module _ (whole : length numbers ≡ sites * most_threads) {others : List ℕ} (told : CountsTell rs cs others) where
    told_too : same_list numbers others ≡ true → CountsTell rs cs numbers
    told_too e = subst (CountsTell rs cs) (sym (same_list-is numbers others e)) told

    -- an array of the counts is the array that was counted
    kept_same : kept ≡ true → numbers ≡ others
    kept_same e =
        same_number_lists numbers others (whole ∙ sym told.whole)
        (λ i h.
        let s = i / most_threads in
        let k = i % most_threads in
        let there : most_threads * s + k ≡ i = omega arith in
        subst (λ (j : ℕ). get_or numbers j 0 ≡ get_or others j 0) there
        (kept_at e s k (omega (arith, whole)) (omega arith) ∙ sym (told.each s k (omega (arith, whole)) (omega arith))))

    pub kept_is : (r : Bool) → r ≡ pointwise eqb numbers others → (r ≡ kept) × (r ≡ true → CountsTell rs cs numbers)
    kept_is r e = (is ∙ go (same_list numbers others) refl, λ q. told_too (sym is ∙ q))
      where
        is : r ≡ same_list numbers others
        is = e ∙ same_tests numbers others

        go : (b : Bool) → same_list numbers others ≡ b → b ≡ kept
        go true q = sym (at_kept (λ s k hs hk. (told_too q).each s k hs hk))
        go false q =
            sym (not_true_false kept (λ p. never_both (subst (λ (l : List ℕ). same_list numbers l ≡ true) (kept_same p) (list_same numbers)) q))
