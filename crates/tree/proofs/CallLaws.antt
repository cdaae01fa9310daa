-- The calls of the levels from one on are those of a part of the levels and those of the levels behind it: both are sums of a list that is cut in two.
-- Assumes nothing.
use Prim.Native.Nat.{ℕ, ◌+◌, ◌-◌, ◌≤◌}
use native.Mathlib.Omega.{arith}
use mathlib.Core.Path.{◌≡◌, refl, ap, sym, ◌∙◌}
use mathlib.Core.List.{List, [], ◌∷◌}
use lib.ListN.{take, drop}
use Rattle.std.specs.List.{sum}
use Rattle.std.proofs.lemmas.List.{drop-drop}
use Rattle.std.proofs.lemmas.List.Sums.{sum_by-cons, sum_by-take-drop}
use Rattle.lists.specs.Count.{sum as added}
use Rattle.model.specs.Site.{A}

added_is : (xs : List ℕ) → added xs ≡ sum xs
added_is [] = refl
added_is (x ∷ xs) = ap (λ (n : ℕ). x + n) (added_is xs) ∙ sym (sum_by-cons (λ (y : ℕ). y) x xs)

pub calls_split : (a : List ℕ) (from to : ℕ) → from ≤ to → sum (take (to - from) (drop from a)) + A a to ≡ A a from
unfolding A
calls_split a from to h =
    let ends : from + (to - from) ≡ to = omega arith in
    let rest : A a to ≡ sum (drop (to - from) (drop from a)) = ap (λ (k : ℕ). added (drop k a)) (sym ends) ∙ ap added (sym (drop-drop (to - from) from a)) ∙ added_is (drop (to - from) (drop from a)) in
    omega (arith, rest, sum_by-take-drop (λ (y : ℕ). y) (drop from a) (to - from), added_is (drop from a))
