-- A plan's arrays looked at where they are: when the record of an entry passes behind those of the entries before it. For the contracts of `audit`.
-- Assumes nothing.
use Rattle.std.specs.Prelude.{ℕ, zero, suc, Bool, true, not, ◌&&◌, ◌||◌, List, get_or, ltb, leb}
use Rattle.ids.specs.Limits.{sites, most_threads, nodes}
use Rattle.lists.specs.Count.{every}
use Rattle.model.specs.PlanValue.{nowhere, pair_at}
use Rattle.model.specs.declared.Edge.{Edge}
use Rattle.record.specs.Step.{pair_rises, listed_node}

-- a site has at most 64 threads; 0 is no record
unfoldable pub site_fits : List ℕ → ℕ → Bool
site_fits threads s = leb (get_or threads s 0) most_threads

-- a node has no record, or its level is below its site's threads, so that the site has a record
unfoldable pub node_fits : List ℕ → List ℕ → List ℕ → ℕ → Bool
node_fits threads places levels n = not (listed_node places n) || ltb (get_or levels n 0) (get_or threads (get_or places n nowhere) 0)

-- the pair at a place rises from the one before it
abbrev pub pair_fits : List Edge → ℕ → Bool
pair_fits pairs zero = true
pair_fits pairs (suc i) =
    pair_rises (pair_at pairs i).caller.0 (pair_at pairs i).callee.0 (pair_at pairs (suc i)).caller.0 (pair_at pairs (suc i)).callee.0

-- both nodes of an edge have records, and its pair rises
unfoldable pub edge_fits : List ℕ → List Edge → ℕ → Bool
edge_fits places pairs i =
    (listed_node places (pair_at pairs i).caller.0 && listed_node places (pair_at pairs i).callee.0) && pair_fits pairs i

unfoldable pub sites_fit : List ℕ → Bool
sites_fit threads = every sites (site_fits threads)

unfoldable pub nodes_fit : List ℕ → List ℕ → List ℕ → Bool
nodes_fit threads places levels = every nodes (node_fits threads places levels)

unfoldable pub edges_fit : List ℕ → List Edge → ℕ → Bool
edges_fit places pairs count = every count (edge_fits places pairs)
