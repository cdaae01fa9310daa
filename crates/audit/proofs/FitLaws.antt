-- Whether each entry below a count fits, as code asks it: one entry after the other, up to the first that does not. Assumes nothing.
use Prim.Native.Nat.{ℕ, ◌+◌, ◌<◌}
use native.Mathlib.Numerals.{add-one}
use mathlib.Core.Path.{◌≡◌, refl, sym, ap, ◌∙◌}
use mathlib.Core.Bool.{Bool, true, false}
use Rattle.lists.specs.Count.{every}
use Rattle.lists.proofs.CountLaws.{never_both, not_true_false, and_both, every_at, every-all}

pub every_decides : (n : ℕ) (f : ℕ → Bool) (b : Bool) → (b ≡ true → (k : ℕ) → k < n → f k ≡ true) → (b ≡ false → (k : ℕ) × (k < n) × (f k ≡ false))
    → b ≡ every n f
every_decides n f true all one = sym (every-all n f (all refl))
every_decides n f false all one =
    let here = one refl in sym (not_true_false (every n f) (λ so. never_both (every_at n f so here.0 here.1) here.2))

-- one entry more, and all of them
pub fits_next : (f : ℕ → Bool) (n : ℕ) → every n f ≡ true → f n ≡ true → every (n + 1) f ≡ true
fits_next f n so e = rw add-one (and_both (every n f) (f n) so e)

pub all_fit : (f : ℕ → Bool) (n k : ℕ) → k ≡ n → every k f ≡ true → true ≡ every n f
all_fit f n k e so = sym (ap (λ (m : ℕ). every m f) (sym e) ∙ so)
