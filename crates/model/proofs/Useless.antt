-- Each useless library of document 01 differs from the definitions on one run of two starts: the first at its first answer, the others at the second,
-- as the checker evaluates them. Assumes nothing.
use Prim.Native.Nat.{ℕ}
use native.Mathlib.Omega.{arith}
use mathlib.Core.Path.{◌≡◌, refl, sym, ◌∙◌}
use mathlib.Core.List.{[], ◌∷◌}
use Rattle.lists.specs.Pick.{any, found, without, changed}
use Rattle.lists.specs.Count.{last}
use Rattle.model.specs.Site.{A, lawful, raised, may_admit, full, blocking}
use Rattle.model.specs.Plan.{threads, place, has_edge}
use Rattle.model.specs.Net.{has_node, site_of, level_of, has, is_on, active_on, counts, admissible, in_the_way, newcomer, opened}
use Rattle.model.specs.Command.{Command, start, refused, active, waiting, fault, opening, step, answers}
use Rattle.model.specs.Useless.{refusing, always_active, forgetful, pretending, small_net, two_starts}

-- what is right is that the first start gets the thread and the second waits; those that forget or pretend say "active" twice
evaluated :
    (answers small_net two_starts ≡ active ∷ waiting 0 ∷ [])
    × (forgetful small_net two_starts ≡ active ∷ active ∷ [])
    × (pretending small_net two_starts ≡ active ∷ active ∷ [])
unfolding any found without changed last A lawful raised may_admit full blocking threads place has_edge has_node site_of level_of has is_on active_on counts admissible in_the_way newcomer opened
    fault opening step
evaluated = (refl, refl, refl)

not_right : active ∷ active ∷ [] ≡ answers small_net two_starts → ⊥
not_right e = let q : active ∷ active ∷ [] ≡ active ∷ waiting 0 ∷ [] = e ∙ evaluated.0 in let z : ◌≡◌ {A = ℕ} 0 1 = cc in omega arith

pub refusing_differs : (why : Command → ℕ) → refusing why small_net two_starts ≡ answers small_net two_starts → ⊥
refusing_differs why e =
    let q : refused (why (start 1 0)) ∷ refused (why (start 2 0)) ∷ [] ≡ active ∷ waiting 0 ∷ [] = e ∙ evaluated.0 in let z : ◌≡◌ {A = ℕ} 0 1 = cc in omega arith

pub always_active_differs : always_active small_net two_starts ≡ answers small_net two_starts → ⊥
always_active_differs = not_right

pub forgetful_differs : forgetful small_net two_starts ≡ answers small_net two_starts → ⊥
forgetful_differs e = not_right (sym evaluated.1 ∙ e)

pub pretending_differs : pretending small_net two_starts ≡ answers small_net two_starts → ⊥
pretending_differs e = not_right (sym evaluated.2 ∙ e)
