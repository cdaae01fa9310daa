-- Which node of a plan depends on which, as a test: over the plan's own nodes, as checks 7 and 8 are decided. Assumes nothing.
use Rattle.std.specs.Prelude.{ℕ, Bool, false, ◌&&◌, ◌||◌, List, [], ◌∷◌}
use Rattle.model.specs.Graph.{either, via}
use Rattle.model.specs.Plan.{Record, edges_of, has_edge, site_steps, listed}

-- an edge is on a path from n to m
abbrev pub on_way : (ℕ → ℕ → Bool) → List ℕ → ℕ → ℕ → ℕ × ℕ → Bool
on_way step ns n m e = via step ns n e.0 && via step ns e.1 m

-- some of these edges is
abbrev pub some_on_way : (ℕ → ℕ → Bool) → List ℕ → ℕ → ℕ → List (ℕ × ℕ) → Bool
some_on_way step ns n m [] = false
some_on_way step ns n m (e ∷ es) = on_way step ns n m e || some_on_way step ns n m es

-- "Node n depends on m if a path leads from n to m with at least one call edge, where the path may also step between nodes of one site"
unfoldable pub node_depends : List Record → ℕ → ℕ → Bool
node_depends rs n m = some_on_way (either (has_edge rs) (site_steps rs)) (listed rs) n m (edges_of rs)
