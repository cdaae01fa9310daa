-- The paper's own statement of the invariant: section 3.1. Assumes nothing.
use Rattle.std.specs.Prelude.{ℕ, ◌+◌, ◌-◌, ◌≤◌, ◌<◌, List, get_or, leb}
use Rattle.lists.specs.Count.{one}
use Rattle.model.specs.Site.{A}

-- "for k ranging over all annotation levels in the annotated call graph": φ, the conjunction of A[k] ≤ T - k over the levels in use
abbrev pub φ : (ℕ → Type 0) → ℕ → List ℕ → Type 0
φ used T a = (k : ℕ) → used k → A a k ≤ T - k

-- A'ᵢ[j], A[j] "after a[i] is incremented": A[j] if j > i, and else A[j] + 1
abbrev pub A' : List ℕ → ℕ → ℕ → ℕ
A' a i j = A a j + one (leb j i)

-- φ'ᵢ, "the condition that φ is preserved if a resource were granted to a process requesting access to a node with annotation i":
-- the conjunction of A'ᵢ[k] ≤ T - k over the levels in use
abbrev pub φ' : (ℕ → Type 0) → ℕ → List ℕ → ℕ → Type 0
φ' used T a i = (k : ℕ) → used k → A' a i k ≤ T - k

-- the levels of a site's nodes, below T as file check 6 leaves them; and every active call has one of them (`levels_in_use`, of AdmitLaws)
pub record InUse (used : ℕ → Type 0) (T : ℕ) (a : List ℕ) : Type 0 where
  pub below : (k : ℕ) → used k → k < T
  pub active : (k : ℕ) → 1 ≤ get_or a k 0 → used k
