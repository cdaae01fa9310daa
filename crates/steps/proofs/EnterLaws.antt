-- A start and a call are one opening: what their tests leave, where the newcomer's node stands in the plan's arrays, and the net after it. Assumes nothing.
use Prim.Native.Nat.{ℕ, suc, ◌+◌, ◌*◌, ◌<◌}
use native.Mathlib.Omega.{arith}
use mathlib.Core.Path.{◌≡◌, refl, sym, ap, subst, ◌∙◌}
use mathlib.Core.Bool.{Bool, true, false, cond}
use mathlib.Core.List.{List}
use lib.ListN.{get_or}
use Rattle.ids.specs.Limits.{sites, nodes, most_threads, most_open}
use Rattle.lists.specs.Count.{last}
use Rattle.model.specs.Net.{Core, has_node, site_of, admissible, in_the_way, opened}
use Rattle.model.specs.Steady.{Newcomer}
use Rattle.model.specs.Command.{Answer, active, waiting, fault, opening, done, step}
use Rattle.model.proofs.StepLaws.{accepted_step, start_fits, call_fits}
use Rattle.model.proofs.PlaceLaws.{site_small}
use Rattle.rooms.specs.Rooms.{no_room, Ranged}
use Rattle.moves.specs.Held.{Arrays, Held, Placed, CanOpen}
use Rattle.moves.proofs.OpenLaws.{level_inside, waits_for}
use Rattle.faults.proofs.LadderLaws.{node_small}
use Rattle.std.specs.Prelude.{Option, Some, None}
use Rattle.text.specs.Lines.{Shown, of_answer}
use Rattle.steps.specs.Running.{Running, Stepped, entering, parent_word}
use Rattle.steps.proofs.StandLaws.{runs_after}

-- A listed node in the plan's arrays

module _ {net : Core} {a : Arrays} {used : ℕ} {most-of places levels edges : List ℕ} (run : Running net a used most-of places levels edges) (node : ℕ)
    (known : has_node net.plan node ≡ true) where
  abbrev site : ℕ
  site = get_or places node 0

  pub node_inside : node < nodes
  node_inside = node_small run.planned.listing node known

  site_is : site ≡ site_of net.plan node
  site_is = run.planned.places_are node known

  pub site_inside : site < sites
  site_inside = omega (arith, site_is, site_small net.plan run.held.firm.pass node known)

  pub node_placed : Placed net.plan node site (get_or levels node 0) (get_or most-of site 0)
  node_placed =
      record {
        known = known;
        site_is = site_is;
        level_is = run.planned.levels_are node known;
        threads_are = run.planned.staffed.each site site_inside;
      }

-- The newcomer

module _ (net : Core) (ticket node : ℕ) where
  entering_fits : (parent : Option ℕ) → fault net (entering parent ticket node) ≡ 0 → Newcomer net.plan net.calls (parent_word parent) ticket node
  entering_fits (Some caller) e = call_fits net caller ticket node e
  entering_fits None e = start_fits net ticket node e

  entering-done : (parent : Option ℕ) → done net (entering parent ticket node) ≡ opening net.plan net.calls (parent_word parent) ticket node
  entering-done (Some caller) = refl
  entering-done None = refl

module _ {net : Core} {a : Arrays} {used : ℕ} {most-of places levels edges : List ℕ} (ok : Running net a used most-of places levels edges)
    (parent : Option ℕ) (ticket node word : ℕ) (word_is : word ≡ parent_word parent) (passes : 0 ≡ fault net (entering parent ticket node)) where
  none_fails : fault net (entering parent ticket node) ≡ 0
  none_fails = sym passes

  fits : Newcomer net.plan net.calls word ticket node
  fits = subst (λ (w : ℕ). Newcomer net.plan net.calls w ticket node) (sym word_is) (entering_fits net ticket node parent none_fails)

  pub node_there : node < nodes
  node_there = node_inside ok node fits.listed_node

  pub site_there : get_or places node 0 < sites
  site_there = site_inside ok node fits.listed_node

  pub room_left : used < most_open
  room_left = omega (arith, ok.held.count, fits.room_left)

  pub can_open : CanOpen net.plan net.calls a used word ticket node (get_or places node 0) (get_or levels node 0) (get_or most-of (get_or places node 0) 0)
  can_open = record { held = ok.held; fits = fits; placed = node_placed ok node fits.listed_node }

  pub entry_ranged : (b : Arrays) (used-after : ℕ) → Held net.plan (opened net.plan net.calls word ticket node) b used-after
      → Ranged b.rooms (most_threads * get_or places node 0) (get_or levels node 0)
  entry_ranged b used-after held =
      record { inside = omega (arith, held.of_rooms.whole, site_there); level_small = level_inside ok.held can_open.placed }

  -- what is said of it: that it is active, or what is in its way as the rooms show it
  abbrev told : Bool → List ℕ → Answer
  told admitted rooms = cond admitted active (waiting (last (suc (get_or levels node 0)) (no_room rooms (most_threads * get_or places node 0))))

  told_is : (b : Arrays) → Held net.plan (opened net.plan net.calls word ticket node) b (used + 1)
      → told (admissible net.plan net.calls node) b.rooms ≡ (opening net.plan net.calls word ticket node).answer
  unfolding opening
  told_is b held = go (admissible net.plan net.calls node) refl
    where
      go : (x : Bool) → admissible net.plan net.calls node ≡ x
          → told x b.rooms ≡ cond x active (waiting (in_the_way net.plan net.calls node))
      go true e = refl
      go false e = ap waiting (waits_for can_open e b (used + 1) held)

  pub entered : {b : Arrays} {admitted : Bool} {what : Shown} → what ≡ of_answer (told admitted b.rooms)
      → (admitted ≡ admissible net.plan net.calls node) × Held net.plan (opened net.plan net.calls word ticket node) b (used + 1)
      → Stepped (step net (entering parent ticket node)) b (used + 1) what most-of places levels edges
  unfolding opening
  entered {b} says after =
      let command = entering parent ticket node in
      runs_after ok command (opened net.plan net.calls word ticket node) (opening net.plan net.calls word ticket node).answer
      (accepted_step net command none_fails ∙ entering-done net ticket node parent ∙ ap (λ (w : ℕ). opening net.plan net.calls w ticket node) (sym word_is))
      (says ∙ ap (λ (x : Bool). of_answer (told x b.rooms)) after.0 ∙ ap of_answer (told_is b after.1))
      after.1
