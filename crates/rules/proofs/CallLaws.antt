-- A test of each call, one after the other: all pass where each does, and one that fails decides. Assumes nothing.
use Prim.Native.Nat.{ℕ, ◌+◌, ◌≤◌, ◌<◌}
use native.Mathlib.Omega.{arith}
use mathlib.Core.Path.{◌≡◌, sym, subst, ◌∙◌}
use mathlib.Core.Logic.{⊎_elim}
use mathlib.Core.Bool.{Bool, true, false}
use mathlib.Core.List.{List}
use lib.ListN.{length, get_or}
use Rattle.lists.specs.Pick.{all, passes_at}
use Rattle.lists.proofs.CountLaws.{lt_or_ge}
use Rattle.lists.proofs.PlaceLaws.{passes_there, all-places, one_fails}
use Rattle.model.specs.Net.{Call}
use Rattle.moves.proofs.KeyLaws.{nobody}
use Rattle.rules.specs.Rules.{CallsCounted}

-- the calls below a place pass
abbrev pub PassTo : (Call → Bool) → List Call → ℕ → Type 0
PassTo f cs i = (j : ℕ) → j < i → passes_at f cs j ≡ true

module _ (f : Call → Bool) {cs : List Call} {used : ℕ} (counted : CallsCounted cs used) where
  module _ (i : ℕ) (inside : i < used) where
    pub place_inside : i < length cs
    place_inside = omega (arith, counted.count)

    pub passes_on : PassTo f cs i → f (get_or cs i nobody) ≡ true → PassTo f cs (i + 1)
    passes_on pass e j l =
        ⊎_elim (λ (p : j < i). pass j p)
        (λ (p : i ≤ j).
        let same : i ≡ j = omega arith in
        subst (λ (k : ℕ). passes_at f cs k ≡ true) same (passes_there f cs i nobody place_inside ∙ e))
        (lt_or_ge j i)

    pub one_decides : f (get_or cs i nobody) ≡ false → false ≡ all f cs
    one_decides e = sym (one_fails f cs i nobody place_inside e)

  pub all_pass : (i : ℕ) → used ≤ i → PassTo f cs i → true ≡ all f cs
  all_pass i past pass = sym (all-places f cs (λ j l. pass j (omega (arith, counted.count))))
