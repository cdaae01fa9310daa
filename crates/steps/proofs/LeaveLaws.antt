-- A return: the call that ends and its node in the plan's arrays, and the net after its thread has gone to the oldest waiter. Assumes nothing.
use Prim.Native.Nat.{◌*◌, ℕ, ◌-◌, ◌<◌}
use native.Mathlib.Omega.{arith}
use mathlib.Core.Path.{refl, ◌≡◌, sym, ap, subst, ◌∙◌}
use mathlib.Core.Bool.{true}
use mathlib.Core.List.{List}
use mathlib.Core.Option.{Option, none}
use lib.ListN.{get_or}
use Rattle.ids.specs.Limits.{sites, nodes, most_threads, most_open, no_ticket}
use Rattle.lists.specs.Count.{first}
use Rattle.lists.specs.Pick.{first_place}
use Rattle.lists.proofs.PickLaws.{found_in}
use Rattle.lists.proofs.TellLaws.{place_inside}
use Rattle.model.specs.Net.{Call, Core, has_node, site_of, level_of, has, lookup, node_of, ticket_of, admissible, closed, to_wake, woken}
use Rattle.model.specs.Steady.{Ending}
use Rattle.model.specs.Command.{return, ended, fault, serving, step}
use Rattle.model.proofs.StepLaws.{accepted_step, return_fits}
use Rattle.model.proofs.SettledLaws.{nobody_freed}
use Rattle.rooms.specs.Rooms.{no_room, Limited}
use Rattle.moves.specs.Held.{Arrays, Held, CanClose, CanServe}
use Rattle.moves.proofs.TableLaws.{told_there}
use Rattle.moves.proofs.OpenLaws.{limit_fits, lets_in}
use Rattle.moves.proofs.ServeLaws.{nobody_woken}
use Rattle.text.specs.Lines.{a_number}
use Rattle.steps.specs.Running.{Running, Stepped}
use Rattle.steps.proofs.StandLaws.{runs_after}
use Rattle.steps.proofs.EnterLaws.{node_inside, site_inside, node_placed}

-- what the tests of a return say of a net where none fails: the place of the call
abbrev pub TestsTold : Core → ℕ → ℕ → Type 0
TestsTold net ticket at = (0 ≡ fault net (return ticket)) × (◌≡◌ {A = ℕ} 0 0 → at ≡ first_place (has ticket) net.calls)

module _ {net : Core} {a : Arrays} {used : ℕ} {most-of places levels edges : List ℕ} (run : Running net a used most-of places levels edges)
    (ticket at : ℕ) (told : TestsTold net ticket at) where
  pub none_fails : fault net (return ticket) ≡ 0
  none_fails = sym told.0

  abbrev pub gone : Call
  gone = (return_fits net ticket none_fails).0

  ending : Ending net.calls ticket gone
  ending = (return_fits net ticket none_fails).1

  abbrev node : ℕ
  node = get_or a.nodes at 0

  abbrev site : ℕ
  site = get_or places node 0

  node_is : node ≡ gone.node
  node_is = told_there (has ticket) gone at run.held.of_nodes ending.stands (told.1 refl)

  known : has_node net.plan node ≡ true
  known =
      ap (has_node net.plan) node_is ∙ run.held.firm.known gone (found_in (has ticket) net.calls gone ending.stands).0

  pub at_inside : at < used
  at_inside = omega (arith, told.1 refl, run.held.count, place_inside (has ticket) net.calls gone ending.stands)

  pub at_small : at < most_open
  at_small = omega (arith, at_inside, run.held.count, run.held.firm.few)

  pub node_listed : node < nodes
  node_listed = node_inside run node known

  pub site_listed : site < sites
  site_listed = site_inside run node known

  site_there : site ≡ site_of net.plan gone.node
  site_there = (node_placed run node known).site_is ∙ ap (site_of net.plan) node_is

  pub can_close : CanClose net.plan net.calls ticket gone a used at site (get_or levels node 0)
  can_close =
      let placed = node_placed run node known in
      record {
        held = run.held;
        ending = ending;
        place = told.1 refl;
        site_is = site_there;
        level_is = subst (λ (n : ℕ). get_or levels node 0 ≡ level_of net.plan n) node_is placed.level_is;
      }

  -- the limit of the site, before the call is closed
  pub limit-told : Limited a.rooms (most_threads * site) (get_or most-of site 0)
  limit-told = limit_fits run.held (node_placed run node known)

  could : (limit : ℕ) → limit ≡ first (get_or most-of site 0) (no_room a.rooms (most_threads * site)) → get_or levels node 0 < limit
      → admissible net.plan net.calls gone.node ≡ true
  could limit e below =
      ap (admissible net.plan net.calls) (sym node_is) ∙ lets_in run.held (node_placed run node known) limit e below

  module _ {b : Arrays} {left : ℕ} (left_is : left ≡ used - 1) (shut : Held net.plan (closed net.calls ticket) b (used - 1)) where
    closing : Held net.plan (closed net.calls ticket) b left
    closing = subst (Held net.plan (closed net.calls ticket) b) (sym left_is) shut

    pub can_serve : CanServe net.plan (closed net.calls ticket) b left site (get_or most-of site 0)
    can_serve = record { held = closing; site_inside = site_listed; threads_are = (node_placed run node known).threads_are }

    pub returned : {d : Arrays} {admitted : ℕ}
        → (admitted ≡ ticket_of (to_wake net.plan (closed net.calls ticket) site))
        × Held net.plan (woken net.plan (closed net.calls ticket) site) d left
        → Stepped (step net (return ticket)) d left (a_number admitted) most-of places levels edges
    unfolding serving
    returned after =
        let cs = closed net.calls ticket in
        let site-then : site_of net.plan (node_of (lookup net.calls ticket)) ≡ site =
        ap (λ (o : Option Call). site_of net.plan (node_of o)) ending.stands ∙ sym site_there
        in
        runs_after run (return ticket) (woken net.plan cs site) (ended (ticket_of (to_wake net.plan cs site)))
        (accepted_step net (return ticket) none_fails ∙ ap (serving net.plan cs) site-then)
        (ap a_number after.0)
        after.1

    -- below the limit: the lowest full level stays full, and nobody is served
    pub unserved : (limit : ℕ) → limit ≡ first (get_or most-of site 0) (no_room a.rooms (most_threads * site)) → get_or levels node 0 < limit
        → Stepped (step net (return ticket)) b left (a_number no_ticket) most-of places levels edges
    unserved limit e below =
        let nobody : to_wake net.plan (closed net.calls ticket) site ≡ none =
        ap (to_wake net.plan (closed net.calls ticket)) site_there
        ∙ nobody_freed net.plan net.calls run.held.firm run.keeps.settled ticket gone ending (could limit e below)
        in
        returned (sym (ap ticket_of nobody), nobody_woken can_serve nobody)
