-- What the site book's own functions are handed: a site that is not refused and one of its levels. For the contracts of `book`. Assumes nothing.
use Rattle.std.specs.Prelude.{ℕ, ◌<◌, ◌≡◌, false, List}
use Rattle.model.specs.Site.{refuses_site}

pub record Asked (T : ℕ) (a : List ℕ) (level : ℕ) : Type 0 where
  pub taken : refuses_site T a ≡ false
  pub below : level < T
