-- What stands at an offset, by the kind byte there and the bytes behind it: the cases of `next` for the table of a plan's kinds.
-- Assumes nothing.
use Prim.Native.Nat.{ℕ, ◌+◌, ◌-◌, ◌≤◌, ◌<◌}
use native.Mathlib.Omega.{arith}
use mathlib.Core.Path.{◌≡◌, sym, ap, ap₂, ◌∙◌}
use mathlib.Core.Option.{none, some}
use Rattle.std.specs.Prelude.{Ok, Err}
use mathlib.Core.List.{List}
use lib.ListN.{length, get_or, take, drop}
use Rattle.model.specs.Plan.{plan_kinds}
use Rattle.model.specs.declared.PlanRecord.{PlanRecord}
use Rattle.model.specs.declared.PlanRefusal.{PlanRefusal}
use Rattle.model.proofs.HouseLaws.{next_lacking, next_unknown, next-cut, next-whole, behind-whole}
use Rattle.record.specs.Step.{next_in, from_next, record_of}

module _ (bytes : List ℕ) (at : ℕ) where
  -- no kind byte
  pub lacks_kind : length bytes ≤ at → Err PlanRefusal.InputEnds ≡ next_in bytes at
  lacks_kind h = sym (ap (λ n. from_next n at) (next_lacking plan_kinds bytes at h))

  module _ (inside : at < length bytes) (kind : ℕ) (there : kind ≡ get_or bytes at 0) where
    pub strange : none ≡ plan_kinds kind → Err PlanRefusal.UnknownKind ≡ next_in bytes at
    strange e = sym (ap (λ n. from_next n at) (next_unknown plan_kinds bytes at inside (sym (e ∙ ap plan_kinds there))))

    -- a kind that is known, with the length of its body
    module _ (size : ℕ) (known : some size ≡ plan_kinds kind) where
      long : plan_kinds (get_or bytes at 0) ≡ some size
      long = sym (known ∙ ap plan_kinds there)

      pub short : length bytes < at + 1 + size → Err PlanRefusal.InputEnds ≡ next_in bytes at
      short h = sym (ap (λ n. from_next n at) (next-cut plan_kinds bytes at inside size long (omega arith)))

      pub complete : at + 1 + size ≤ length bytes → (body : List ℕ) → body ≡ take (at + 1 + size - (at + 1)) (drop (at + 1) bytes)
          → (found : PlanRecord) → found ≡ record_of kind body → Ok (record { next = found; behind = at + 1 + size }) ≡ next_in bytes at
      complete h body is found e =
          let fits : size ≤ length bytes - at - 1 = omega arith in
          ap₂ (λ (r : PlanRecord) (b : ℕ). Ok (record { next = r; behind = b })) (e ∙ ap₂ record_of there is)
          (behind-whole plan_kinds bytes at inside size long fits)
          ∙ sym (ap (λ n. from_next n at) (next-whole plan_kinds bytes at inside size long fits))
