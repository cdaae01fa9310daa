-- Paths in the annotated call graph: section 2 of the paper, and document 01, "Plan bytes", last paragraph.
-- A relation on nodes is a test of two node numbers. Assumes nothing.
use Rattle.std.specs.Prelude.{ℕ, Bool, ◌&&◌, ◌||◌, List, [], ◌∷◌, T, eqb}

-- a call edge or a step within a site
abbrev pub either : (ℕ → ℕ → Bool) → (ℕ → ℕ → Bool) → ℕ → ℕ → Bool
either calls steps n m = calls n m || steps n m

-- a path of any number of steps, none included
pub data Reach (step : ℕ → ℕ → Bool) : ℕ → ℕ → Type 0 where
  stay : {n : ℕ} → Reach step n n
  go : {n m l : ℕ} → T (step n m) → Reach step m l → Reach step n l

-- "Node n depends on m if a path leads from n to m with at least one call edge, where the path may also step between nodes of one site"
pub data Depends (calls steps : ℕ → ℕ → Bool) : ℕ → ℕ → Type 0 where
  by_call : {n m l : ℕ} → T (calls n m) → Reach (either calls steps) m l → Depends calls steps n l
  by_site : {n m l : ℕ} → T (steps n m) → Depends calls steps m l → Depends calls steps n l

-- whether a path leads from n to m by way of the listed nodes alone: straight, or by way of the first listed node once more
abbrev pub via : (ℕ → ℕ → Bool) → List ℕ → ℕ → ℕ → Bool
via step [] n m = eqb n m || step n m
via step (k ∷ ks) n m = via step ks n m || (via step ks n k && via step ks k m)
