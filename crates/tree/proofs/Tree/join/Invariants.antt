-- `Tree::join` meets its contract. The loop's invariant: the places from `first` up to n are made from their halves, which lie at or behind n,
-- so that no store has touched them. Assumes nothing.
use Prim.Native.Nat.{ℕ}
use mathlib.Core.List.{List}
use Rattle.lists.specs.Fill.{Filled}
use Rattle.tree.specs.Places.{pair_size, pair_slack}
use Rattle.tree.proofs.Tree.join.Given as goal

pub record Made (sizes₀ slacks₀ sizes slacks : List ℕ) (first n : ℕ) : Type 0 where
  pub sized : Filled (pair_size sizes₀) first n sizes₀ sizes
  pub slacked : Filled (pair_slack sizes₀ slacks₀) first n slacks₀ slacks

abbrev pub invariant-loop-n : goal.invariant-loop-n
invariant-loop-n l = Made l.initial.self.sizes l.initial.self.slacks l.self.sizes l.self.slacks l.first l.n
