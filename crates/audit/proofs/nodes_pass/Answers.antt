-- `audit::nodes_pass` meets its contract: the chain is true where each entry below the count fits, and false where one does not. Assumes nothing.
use Prim.Native.Nat.{ℕ, ◌<◌}
use mathlib.Core.Path.{◌≡◌}
use mathlib.Core.Bool.{true, false}
use Rattle.std.proofs.Common.{rules}
use Rattle.std.proofs.iter.runs.Sources.{ranges}
use Rattle.ids.specs.Limits.{nodes}
use Rattle.audit.specs.Fits.{node_fits, nodes_fit}
use Rattle.audit.proofs.FitLaws.{every_decides}
use Rattle.audit.proofs.nodes_pass.Goals as goal

pub returns : goal.returns
unfolding nodes_fit node_fits
returns c =
    let p = c.args.plan.now in
    let all : c.all.result ≡ true → (k : ℕ) → k < nodes → node_fits p.threads p.places p.levels k ≡ true = search (rules, ranges) in
    let one : c.all.result ≡ false → (k : ℕ) × (k < nodes) × (node_fits p.threads p.places p.levels k ≡ false) = search (rules, ranges) in
    every_decides nodes (node_fits p.threads p.places p.levels) c.all.result all one
