-- What a function of `text` does to the buffer: some bytes stand from a place on, and nothing else is changed. Assumes nothing.
use Rattle.std.specs.Prelude.{ℕ, ◌+◌, ◌≤◌, ◌≡◌, List, length}
use Rattle.std.proofs.lemmas.List.Edits.{sets}
use Rattle.text.specs.declared.Page.{Page}

-- the bytes `vs` stand from `at` on, `to` is the place behind them, and all of them had room
pub record Put (old : List ℕ) (at : ℕ) (vs : List ℕ) (new : List ℕ) (to : ℕ) : Type 0 where
  pub written : new ≡ sets old at vs
  pub end_is : to ≡ at + length vs
  pub inside : to ≤ length new

-- a page with these bytes more
abbrev pub Puts : Page → List ℕ → Page → Type 0
Puts old vs new = Put old.text.now old.at vs new.text.now new.at
