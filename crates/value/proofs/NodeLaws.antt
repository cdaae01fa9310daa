-- What stands in a plan's arrays for a node that has a record, whoever made the plan: its site and its level. From the lookups in the records. Assumes nothing.
use Prim.Native.Nat.{ℕ, ◌<◌}
use native.Mathlib.Omega.{arith}
use mathlib.Core.Path.{◌≡◌, sym, ap, ◌∙◌}
use mathlib.Core.Logic.{⊎_elim}
use mathlib.Core.Bool.{Bool, true, cond}
use mathlib.Core.Option.{none, some}
use lib.ListN.{get_or}
use Rattle.ids.specs.Limits.{nodes}
use Rattle.lists.proofs.CountLaws.{lt_or_ge, never_both, get_or_inside}
use Rattle.model.specs.Plan.{present}
use Rattle.model.specs.PlanValue.{Sized, records_of, held, nowhere, somewhere}
use Rattle.model.specs.Net.{has_node, place_site, place_level, site_of, level_of}
use Rattle.model.specs.declared.Plan.{Plan}
use Rattle.model.proofs.HeldLaws.{held_out, place_of, present-held}

module _ (p : Plan) (sized : Sized p) (n : ℕ) where
  -- a record stands where the place is not nowhere
  pub listed_there : has_node (records_of p) n ≡ somewhere (get_or p.places n nowhere)
  unfolding has_node
  listed_there = ap present (place_of p sized n) ∙ present-held p n

  module _ (known : has_node (records_of p) n ≡ true) where
    pub node_inside : n < nodes
    unfolding has_node
    node_inside =
        ⊎_elim (λ (h : n < nodes). h)
        (λ h. absurd (never_both {b = has_node (records_of p) n} known (ap present (place_of p sized n ∙ held_out p sized n h))))
        (lt_or_ge n nodes)

    there : held p n ≡ some (record { at = get_or p.places n nowhere; level = get_or p.levels n 0 })
    unfolding held
    there =
        ap (λ (b : Bool). cond b (some (record { at = get_or p.places n nowhere; level = get_or p.levels n 0 })) none) (sym listed_there ∙ known)

    pub site_there : site_of (records_of p) n ≡ get_or p.places n 0
    unfolding site_of
    site_there = ap place_site (place_of p sized n ∙ there) ∙ get_or_inside p.places n nowhere 0 (omega (arith, sized.places, node_inside))

    pub level_there : level_of (records_of p) n ≡ get_or p.levels n 0
    unfolding level_of
    level_there = ap place_level (place_of p sized n ∙ there)
