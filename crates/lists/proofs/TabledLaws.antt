-- A list that is given place by place: how long it is, what stands at a place, and that no other list has the same there. By the entry at the end. Assumes
-- nothing.
use Prim.Native.Nat.{ℕ, zero, suc, ◌+◌, ◌<◌}
use native.Mathlib.Omega.{arith}
use native.Mathlib.Numerals.{add-one}
use native.Mathlib.Nat.{eq-or-lt_of_le, le_of_suc-le-suc, not-suc-le-zero}
use mathlib.Core.Path.{◌≡◌, refl, sym, ap, subst, ◌∙◌}
use mathlib.Core.Logic.{⊎_elim}
use mathlib.Core.List.{List, [], ◌∷◌, ◌++◌}
use lib.ListN.{length, get_or, length-append}
use lib.Seq.{ext_get_or, get_or-append_seam}
use Rattle.lists.specs.Tabled.{tabled}

module _ {A : Type 0} where
  pub length-tabled : (n : ℕ) (f : ℕ → A) → length (tabled n f) ≡ n
  unfolding tabled
  length-tabled zero f = refl
  length-tabled (suc n) f = length-append (tabled n f) (f n ∷ []) ∙ omega (arith, length-tabled n f)

  pub tabled_more : (n : ℕ) (f : ℕ → A) → tabled (n + 1) f ≡ tabled n f ++ (f n ∷ [])
  unfolding tabled
  tabled_more n f = ap (λ (m : ℕ). tabled m f) (add-one n)

  get_d_front : (xs ys : List A) (i : ℕ) (d : A) → i < length xs → get_or (xs ++ ys) i d ≡ get_or xs i d
  get_d_front [] ys i d h = absurd (not-suc-le-zero h)
  get_d_front (x ∷ xs) ys zero d h = refl
  get_d_front (x ∷ xs) ys (suc i) d h = get_d_front xs ys i d (le_of_suc-le-suc h)

  pub get_or-tabled : (n : ℕ) (f : ℕ → A) (i : ℕ) (d : A) → i < n → get_or (tabled n f) i d ≡ f i
  unfolding tabled
  get_or-tabled zero f i d h = absurd (not-suc-le-zero h)
  get_or-tabled (suc n) f i d h =
      ⊎_elim
      (λ (e : i ≡ n).
      ap (λ (j : ℕ). get_or (tabled n f ++ (f n ∷ [])) j d) (e ∙ sym (length-tabled n f)) ∙ get_or-append_seam (tabled n f) (f n) [] d ∙ ap f (sym e))
      (λ (l : i < n). get_d_front (tabled n f) (f n ∷ []) i d (omega (arith, length-tabled n f)) ∙ get_or-tabled n f i d l)
      (eq-or-lt_of_le (le_of_suc-le-suc h))

  -- what is the same at each place is that list
  pub tabled-is : (n : ℕ) (f : ℕ → A) (l : List A) (d : A) → length l ≡ n → ((i : ℕ) → i < n → get_or l i d ≡ f i) → l ≡ tabled n f
  tabled-is n f l d e same =
      ext_get_or d l (tabled n f) (e ∙ sym (length-tabled n f))
      (λ i h. same i (subst (λ (m : ℕ). i < m) e h) ∙ sym (get_or-tabled n f i d (subst (λ (m : ℕ). i < m) e h)))
