-- The checks of the end record over a plan's value, which may be anybody's: its call edges between nodes 0 to 63 count. Assumes nothing.
use Rattle.std.specs.Prelude.{ℕ, ◌≡◌}
use Rattle.model.specs.Graph.{Depends}
use Rattle.model.specs.Plan.{has_edge, site_steps, no_steps}
use Rattle.model.specs.PlanValue.{records_of}
use Rattle.model.specs.declared.Plan.{Plan}
use Rattle.cycles.specs.Within.{within_nodes}

-- "the call edges have a loop"
abbrev pub Loops : Plan → Type 0
Loops p = (n : ℕ) × Depends (within_nodes (has_edge (records_of p))) no_steps n n

-- "some node depends on itself"
abbrev pub Dependent : Plan → Type 0
Dependent p = (n : ℕ) × Depends (within_nodes (has_edge (records_of p))) (site_steps (records_of p)) n n

-- "7, then 8", or 0
pub data WholeFault (p : Plan) (number : ℕ) : Type 0 where
  seven : Loops p → number ≡ 7 → WholeFault p number
  eight : (Loops p → ⊥) → Dependent p → number ≡ 8 → WholeFault p number
  neither : (Loops p → ⊥) → (Dependent p → ⊥) → number ≡ 0 → WholeFault p number
