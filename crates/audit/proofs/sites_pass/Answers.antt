-- `audit::sites_pass` meets its contract: the chain is true where each entry below the count fits, and false where one does not. Assumes nothing.
use Prim.Native.Nat.{ℕ, ◌<◌}
use mathlib.Core.Path.{◌≡◌}
use mathlib.Core.Bool.{true, false}
use Rattle.std.proofs.Common.{rules}
use Rattle.std.proofs.iter.runs.Sources.{ranges}
use Rattle.ids.specs.Limits.{sites}
use Rattle.audit.specs.Fits.{site_fits, sites_fit}
use Rattle.audit.proofs.FitLaws.{every_decides}
use Rattle.audit.proofs.sites_pass.Goals as goal

pub returns : goal.returns
unfolding sites_fit site_fits
returns c =
    let p = c.args.plan.now in
    let all : c.all.result ≡ true → (k : ℕ) → k < sites → site_fits p.threads k ≡ true = search (rules, ranges) in
    let one : c.all.result ≡ false → (k : ℕ) × (k < sites) × (site_fits p.threads k ≡ false) = search (rules, ranges) in
    every_decides sites (site_fits p.threads) c.all.result all one
