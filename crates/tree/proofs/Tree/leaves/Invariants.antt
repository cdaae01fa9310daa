-- `Tree::leaves` meets its contract. The loop's invariant: the leaves of the levels below k are set.
-- Assumes nothing.
use Prim.Native.Nat.{ℕ, ◌+◌}
use mathlib.Core.List.{List}
use Rattle.ids.specs.Limits.{most_threads}
use Rattle.lists.specs.Fill.{Filled}
use Rattle.tree.specs.Places.{leaf_size, leaf_slack}
use Rattle.tree.proofs.Tree.leaves.Given as goal

pub record Set (T : ℕ) (a sizes₀ slacks₀ sizes slacks : List ℕ) (k : ℕ) : Type 0 where
  pub sized : Filled (leaf_size a) most_threads (most_threads + k) sizes₀ sizes
  pub slacked : Filled (leaf_slack T a) most_threads (most_threads + k) slacks₀ slacks

abbrev pub invariant-loop-k : goal.invariant-loop-k
invariant-loop-k l = Set l.threads l.counts l.initial.self.sizes l.initial.self.slacks l.self.sizes l.self.slacks l.k
