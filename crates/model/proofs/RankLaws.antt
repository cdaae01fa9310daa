-- Under an accepted plan the dependency falls: the rank of a node is how many of the plan's nodes it reaches, and a node that depends on another reaches
-- all that the other reaches, and itself besides. Assumes nothing.
use Prim.Native.Nat.{ℕ, ◌<◌}
use mathlib.Core.Path.{◌≡◌}
use mathlib.Core.Logic.{⊎_elim}
use mathlib.Core.Bool.{Bool, true, false}
use mathlib.Core.List.{List, Memᴰ}
use lib.Dec.{T}
use Rattle.lists.specs.Pick.{count}
use Rattle.lists.proofs.CountLaws.{not_true_false}
use Rattle.lists.proofs.PickLaws.{count_less}
use Rattle.model.specs.Graph.{either, Depends, via}
use Rattle.model.specs.Plan.{Record, has_edge, six, site_steps, listed}
use Rattle.model.specs.Reading.{PlanOk}
use Rattle.model.proofs.GraphLaws.{yes, is_true, or_cases, reach_join, via_sound, via_stay, via_complete, depends_reach, depends_on}
use Rattle.model.proofs.RecordLaws.{passes_ok}
use Rattle.model.proofs.PlanLaws.{call_nodes, step_node}

module _ (rs : List Record) where
  abbrev edge_or_step : ℕ → ℕ → Bool
  edge_or_step = either (has_edge rs) (site_steps rs)

  unfoldable pub rank : ℕ → ℕ
  rank n = count (via edge_or_step (listed rs) n) (listed rs)

  module _ (ok : PlanOk rs) where
    ends : (n m : ℕ) → T (edge_or_step n m) → Memᴰ m (listed rs)
    ends n m h = ⊎_elim (λ a. (call_nodes rs (passes_ok six rs ok.records) n m a).1) (λ b. step_node rs n m b) (or_cases (has_edge rs n m) (site_steps rs n m) h)

    pub rank_falls : (n m : ℕ) → Memᴰ n (listed rs) → Depends (has_edge rs) (site_steps rs) n m → rank m < rank n
    unfolding rank
    rank_falls n m here d =
        count_less (via edge_or_step (listed rs) m) (via edge_or_step (listed rs) n) (listed rs) more n here itself
        (is_true (via edge_or_step (listed rs) n n) (via_stay edge_or_step (listed rs) n))
      where
        more : (x : ℕ) → Memᴰ x (listed rs) → via edge_or_step (listed rs) m x ≡ true → via edge_or_step (listed rs) n x ≡ true
        more x i e =
            is_true (via edge_or_step (listed rs) n x)
            (via_complete edge_or_step (listed rs) ends
            (reach_join (depends_reach (has_edge rs) (site_steps rs) d) (via_sound edge_or_step (listed rs) (yes e))))

        itself : via edge_or_step (listed rs) m n ≡ false
        itself =
            not_true_false (via edge_or_step (listed rs) m n)
            (λ e. ok.acyclic n (depends_on (has_edge rs) (site_steps rs) d (via_sound edge_or_step (listed rs) (yes e))))
