-- The nodes of the open calls are in the plan exactly where the lent sites list each of them. By an induction over the calls and their numbers together.
-- Assumes nothing.
use Prim.Native.Nat.{ℕ, suc, ◌≤◌, ◌<◌}
use native.Mathlib.Omega.{arith}
use mathlib.Core.Path.{◌≡◌, refl, ap, ap₂, ◌∙◌}
use mathlib.Core.Bool.{Bool, ◌&&◌}
use mathlib.Core.List.{List, [], ◌∷◌}
use lib.ListN.{length, get_or, take}
use Rattle.std.specs.List.{list_all}
use Rattle.lists.specs.Pick.{all, tell}
use Rattle.model.specs.Plan.{Record}
use Rattle.model.specs.Net.{Call, has_node}
use Rattle.record.specs.Step.{listed_node}
use Rattle.moves.specs.Held.{node_number}
use Rattle.rules.specs.Rules.{NodesSeen}

-- a test of the first numbers is that of the calls that they are told of
all_told : (f : Call → Bool) (test : ℕ → Bool) (g : Call → ℕ) (cs : List Call) (numbers : List ℕ) → length cs ≤ length numbers
    → ((c : Call) → test (g c) ≡ f c)
    → ((i : ℕ) → i < length cs → get_or numbers i 0 ≡ tell g cs i)
    → list_all test (take (length cs) numbers) ≡ all f cs
unfolding all tell
all_told f test g [] numbers long same each = refl
all_told f test g (c ∷ cs) [] long same each = absurd (omega arith)
all_told f test g (c ∷ cs) (n ∷ numbers) long same each =
    ap₂ (λ (a b : Bool). a && b) (ap test (each 0 (omega arith)) ∙ same c)
    (all_told f test g cs numbers (omega arith) same (λ i h. each (suc i) (omega arith)))

pub all_known : {rs : List Record} {cs : List Call} {open-nodes : List ℕ} {used : ℕ} {places : List ℕ} → NodesSeen rs cs open-nodes used places
    → list_all (listed_node places) (take used open-nodes) ≡ all (λ c. has_node rs c.node) cs
all_known {rs} {cs} {open-nodes} {used} {places} seen =
    ap (λ (n : ℕ). list_all (listed_node places) (take n open-nodes)) seen.counted.count
    ∙ all_told (λ c. has_node rs c.node) (listed_node places) node_number cs open-nodes (omega (arith, seen.counted.few, seen.of_nodes.whole))
    (λ c. seen.listing.tells c.node) (λ i h. seen.of_nodes.each i)
