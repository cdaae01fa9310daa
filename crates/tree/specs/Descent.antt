-- What `tree` answers. Assumes nothing.
use Rattle.std.specs.Prelude.{ℕ, cond, List, Result, Ok, Err}
use Rattle.model.specs.Site.{refuses_site}
use Rattle.model.specs.Tree.{from_root}
use Rattle.model.specs.declared.Walked.{Walked}
use Rattle.model.specs.declared.SiteRefused.{SiteRefused}

-- the walk from the root; "a refusal, with no level and no count"
unfoldable pub descent : ℕ → List ℕ → Result Walked SiteRefused
descent T a = cond (refuses_site T a) (Err (record {})) (Ok (from_root T a))
