-- The level sheet's run of a full table: 256 calls are open, the 257th is refused 26, and after one return it is accepted, as the checker evaluates the
-- definitions. A site of one thread, so that all but the first wait. Assumes nothing.
use Prim.Native.Nat.{ℕ, zero, suc}
use mathlib.Core.Path.{◌≡◌, refl}
use mathlib.Core.List.{List, [], ◌∷◌}
use Rattle.lists.specs.Pick.{any, found, without, changed}
use Rattle.lists.specs.Count.{last}
use Rattle.model.specs.Site.{A, lawful, raised, may_admit, full, blocking}
use Rattle.model.specs.Plan.{threads, place, has_edge}
use Rattle.model.specs.Net.{has_node, site_of, level_of, has, is_child, has_child, is_on, active_on, waits_on, counts, admissible, in_the_way, newcomer}
use Rattle.model.specs.Net.{opened, closed, may_wake, to_wake, woken}
use Rattle.model.specs.Command.{Command, start, return, refused, ended, waiting, fault, opening, serving, step, run, answers}
use Rattle.model.specs.Useless.{small_net}

-- starts of node 0 with the tickets from t on
abbrev pub starts : ℕ → ℕ → List Command
starts zero t = []
starts (suc n) t = start t 0 ∷ starts n (suc t)

pub full-table : answers (run small_net (starts 256 1)) (start 257 0 ∷ return 1 ∷ start 257 0 ∷ []) ≡ refused 26 ∷ ended 2 ∷ waiting 0 ∷ []
unfolding any found without changed last A lawful raised may_admit full blocking threads place has_edge has_node site_of level_of has is_child has_child is_on active_on
    waits_on counts admissible in_the_way newcomer opened closed may_wake to_wake woken fault opening serving step
full-table = refl
