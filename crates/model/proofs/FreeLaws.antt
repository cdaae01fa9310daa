-- Where a call is open under an accepted plan, some active call has no open call beneath it, and its return is accepted. A search that goes down the
-- dependency: from an active call to its child, and from a child that waits to the active call of its site that holds it back; the rank falls.
-- Of the rule of admission only fact B enters, in `blocker`. Assumes nothing.
use Prim.Native.Nat.{ℕ, zero, suc, ◌≤◌}
use native.Mathlib.Nat.{le_refl}
use native.Mathlib.Omega.{arith}
use mathlib.Core.Path.{◌≡◌, refl, sym, ap, subst, ◌∙◌}
use mathlib.Core.Logic.{◌⊎◌, inl, inr, ⊎_elim}
use mathlib.Core.Bool.{Bool, true, false, not, ◌||◌}
use mathlib.Core.List.{List, Memᴰ}
use mathlib.Core.Option.{Option, some}
use lib.Dec.{eqb}
use borrow.Author.Tests.{eqb-true, eq-eqb}
use Rattle.ids.specs.Limits.{no_ticket}
use Rattle.lists.proofs.CountLaws.{true_or_false, and_right}
use Rattle.lists.proofs.PickLaws.{only_one, found_in, found_some, count-some, any_some}
use Rattle.model.specs.Graph.{Depends, by_call, stay, go}
use Rattle.model.specs.Plan.{has_edge, site_steps}
use Rattle.model.specs.Reading.{PlanOk}
use Rattle.model.specs.Net.{Call, Core, site_of, level_of, has, lookup, is_open, is_active, is_child, has_child, active_on}
use Rattle.model.specs.Command.{return, return_tests, fault}
use Rattle.model.specs.NetRules.{Keeps, parent_stands, parent_kept}
use Rattle.model.proofs.GraphLaws.{yes, or_by_right}
use Rattle.model.proofs.TestLaws.{first_fault-is}
use Rattle.model.proofs.PlaceLaws.{known-listed, site_step}
use Rattle.model.proofs.AdmitLaws.{blocker}
use Rattle.model.proofs.FirmLaws.{active_site}
use Rattle.model.proofs.SettledLaws.{waits_held}
use Rattle.model.proofs.RankLaws.{rank, rank_falls}

-- an active call with no open call beneath it
pub record Free (cs : List Call) : Type 0 where
  pub who : Call
  pub among : Memᴰ who cs
  pub runs : who.active ≡ true
  pub childless : has_child cs who.ticket ≡ false

-- Tickets tell calls apart
module _ (net : Core) (k : Keeps net) where
  same_ticket : (c d : Call) → Memᴰ c net.calls → Memᴰ d net.calls → c.ticket ≡ d.ticket → c ≡ d
  unfolding has
  same_ticket c d m n e =
      only_one (has d.ticket) net.calls (k.tickets_differ d.ticket) c d m n (eq-eqb c.ticket d.ticket e)
      (eq-eqb d.ticket d.ticket refl)

  -- an open call is found by its ticket
  pub found_by_ticket : (c : Call) → Memᴰ c net.calls → lookup net.calls c.ticket ≡ some c
  unfolding has
  found_by_ticket c m =
      let w = found_some (has c.ticket) net.calls c m (eq-eqb c.ticket c.ticket refl) in
      let v = found_in (has c.ticket) net.calls w.0 w.1 in
      w.1 ∙ ap some (same_ticket w.0 c v.0 m (eqb-true w.0.ticket c.ticket v.1))

  pub ticket_not_0 : (c : Call) → Memᴰ c net.calls → c.ticket ≡ no_ticket → ⊥
  unfolding has
  ticket_not_0 c m e = omega (arith, k.no_ticket_0, count-some (has no_ticket) net.calls c m (eq-eqb c.ticket no_ticket e))

  -- a child's call follows an edge of the plan
  child_edge : (c e : Call) → Memᴰ c net.calls → Memᴰ e net.calls → e.parent ≡ c.ticket → has_edge net.plan c.node e.node ≡ true
  unfolding parent_kept
  child_edge c e m n q = at (eqb e.parent no_ticket) refl (k.parents_kept e n)
    where
      at : (b : Bool) → eqb e.parent no_ticket ≡ b → (b || parent_stands net.plan (lookup net.calls e.parent) e.node) ≡ true
          → has_edge net.plan c.node e.node ≡ true
      at true z h = absurd (ticket_not_0 c m (sym q ∙ eqb-true e.parent no_ticket z))
      at false z h =
          let parent : lookup net.calls e.parent ≡ some c = ap (lookup net.calls) q ∙ found_by_ticket c m in
          and_right c.active (has_edge net.plan c.node e.node)
          (subst (λ (o : Option Call). parent_stands net.plan o e.node ≡ true) parent h)

  -- who holds back a call that waits
  holder : (e : Call) → Memᴰ e net.calls → e.active ≡ false
      → (d : Call) × Memᴰ d net.calls × (active_on net.plan (site_of net.plan e.node) d ≡ true)
      × (level_of net.plan d.node ≤ level_of net.plan e.node)
  holder e m w =
      blocker net.plan k.plan_passes net.calls k.sites_lawful k.nodes_known e.node (k.nodes_known e m)
      (waits_held net.plan net.calls e (k.settled e m) w)

  -- from an active call with a child the search goes on at an active call on which its node depends
  abbrev NextDown : Call → Type 0
  NextDown c = (d : Call) × Memᴰ d net.calls × (d.active ≡ true) × Depends (has_edge net.plan) (site_steps net.plan) c.node d.node

  next_down : (c : Call) → Memᴰ c net.calls → has_child net.calls c.ticket ≡ true → NextDown c
  unfolding has_child is_child
  next_down c m h =
      let child = any_some (is_child c.ticket) net.calls h in
      at child.0 child.1 (eqb-true child.0.parent c.ticket child.2) (true_or_false child.0.active)
    where
      at : (e : Call) → Memᴰ e net.calls → e.parent ≡ c.ticket → (e.active ≡ true) ⊎ (e.active ≡ false) → NextDown c
      at e n q (inl a) = (e, n, a, by_call (yes (child_edge c e m n q)) stay)
      at e n q (inr w) =
          let b = holder e n w in
          let d = b.0 in
          let here = active_site net.plan (site_of net.plan e.node) d b.2 in
          let step_down =
          site_step net.plan e.node d.node (k.nodes_known e n) (k.nodes_known d b.1) (sym here.0) b.3
          in (
            d,
            b.1,
            here.1,
            by_call (yes (child_edge c e m n q))
                (go (or_by_right (has_edge net.plan e.node d.node) (site_steps net.plan e.node d.node) step_down) stay),
          )

  module _ (ok : PlanOk net.plan) where
    -- as many turns as the rank are enough
    search_down : (fuel : ℕ) (c : Call) → Memᴰ c net.calls → c.active ≡ true → rank net.plan c.node ≤ fuel → Free net.calls
    search_down zero c m a h =
        ⊎_elim
        (λ child.
        let w = next_down c m child in
        let falls = rank_falls net.plan ok c.node w.0.node (known-listed net.plan c.node (k.nodes_known c m)) w.3 in
        absurd (omega arith))
        (λ none. record { who = c; among = m; runs = a; childless = none })
        (true_or_false (has_child net.calls c.ticket))
    search_down (suc fuel) c m a h =
        ⊎_elim
        (λ child.
        let w = next_down c m child in
        let falls = rank_falls net.plan ok c.node w.0.node (known-listed net.plan c.node (k.nodes_known c m)) w.3 in
        search_down fuel w.0 w.1 w.2 (omega arith))
        (λ none. record { who = c; among = m; runs = a; childless = none })
        (true_or_false (has_child net.calls c.ticket))

    -- where any call is open, some call is free
    pub somebody_free : (c : Call) → Memᴰ c net.calls → Free net.calls
    somebody_free c m =
        ⊎_elim
        (λ a. search_down (rank net.plan c.node) c m a (le_refl (rank net.plan c.node)))
        (λ w.
        let b = holder c m w in
        let here = active_site net.plan (site_of net.plan c.node) b.0 b.2 in
        search_down (rank net.plan b.0.node) b.0 b.1 here.1 (le_refl (rank net.plan b.0.node)))
        (true_or_false c.active)

  -- the return of a free call is accepted
  pub free_returns : (free : Free net.calls) → fault net (return free.who.ticket) ≡ 0
  unfolding fault
  free_returns free =
      let stands = found_by_ticket free.who free.among in
      (first_fault-is 0 (return_tests net.calls free.who.ticket) refl).1
      (ap is_open stands, (ap is_active stands ∙ free.runs, (ap not free.childless, refl)))
