-- The part of a relation that rows of words can hold, and the steps within a site over the plan's arrays. Assumes nothing.
use Rattle.std.specs.Prelude.{ℕ, ◌<◌, ◌≡◌, Bool, false, ◌&&◌, ◌||◌, cond, List, ltb, leb, eqb, get_or}
use Rattle.ids.specs.Limits.{nodes}
use Rattle.model.specs.PlanValue.{somewhere}
use Rattle.words.specs.Words.{member}

-- the pairs of nodes: "Nodes are numbered 0 to 63". A plan that passes its checks has no others
unfoldable pub within_nodes : (ℕ → ℕ → Bool) → ℕ → ℕ → Bool
within_nodes relation n m = ltb n nodes && (ltb m nodes && relation n m)

-- a step within a site, over the places and the levels of the nodes
unfoldable pub steps_in : List ℕ → List ℕ → ℕ → ℕ → Bool
steps_in places levels n m =
    cond (somewhere (get_or places n 0))
    (cond (eqb (get_or places m 0) (get_or places n 0)) (leb (get_or levels m 0) (get_or levels n 0)) false)
    false

-- a set with the nodes more that pass a test
abbrev pub WithSteps : ℕ → ℕ → (ℕ → Bool) → Type 0
WithSteps old new row = (m : ℕ) → m < nodes → member new m ≡ (member old m || row m)
