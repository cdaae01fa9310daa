-- The net and the site book agree: of a listed site of a net that keeps the rules, what the site book answers for the site's threads and counts is what
-- the net answers, since the rules leave the site book nothing to refuse. So it says 255 of no listed site. Assumes nothing.
use Prim.Native.Nat.{ℕ, ◌≤◌, ◌<◌}
use native.Mathlib.Omega.{arith}
use mathlib.Core.Path.{◌≡◌, refl, ap, subst, ◌∙◌}
use mathlib.Core.Logic.{⊎_elim}
use mathlib.Core.Bool.{Bool, true, false, cond}
use mathlib.Core.List.{[], ◌∷◌, Memᴰ}
use borrow.Author.Tests.{lt-ltb, le-ltb, lt-leb, le-leb, ne_eqb}
use Rattle.lists.proofs.CountLaws.{lt_or_ge}
use Rattle.model.specs.Site.{refuses_site, may_admit, blocking}
use Rattle.model.specs.Answers.{site_refusal, level_refusal, admission_answer, room_answer, firmware}
use Rattle.model.specs.Plan.{site, threads, six}
use Rattle.model.specs.Net.{Core, has_node, site_of, level_of, limit_at}
use Rattle.model.specs.NetRules.{own_book, Keeps}
use Rattle.model.specs.Command.{Command, start, call, return, take_back, active, waiting, told, fault, step, told_roomed, room_at}
use Rattle.model.specs.Demands.{OpensCall, by_start, by_call}
use Rattle.model.proofs.SiteLaws.{not_refused}
use Rattle.model.proofs.RecordLaws.{passes_ok, threads-listed, listed-threads}
use Rattle.model.proofs.PlaceLaws.{threads_most, level_below-threads}
use Rattle.model.proofs.CountsLaws.{counts-length}
use Rattle.model.proofs.AdmitLaws.{within}
use Rattle.model.proofs.StepLaws.{start_fits, call_fits}
use Rattle.model.proofs.Demands.{demand_2}

module _ (net : Core) where
  no_threads : (s : ℕ) → ((t : ℕ) → Memᴰ (site s t) net.plan → ⊥) → threads net.plan s ≡ 0
  no_threads s unlisted =
      ⊎_elim
      (λ (h : 0 < threads net.plan s). absurd (unlisted (threads net.plan s) (threads-listed net.plan s (λ e. omega arith))))
      (λ (h : threads net.plan s ≤ 0). omega arith)
      (lt_or_ge 0 (threads net.plan s))

  -- an unlisted site is 30 in the net, where the site book, which is handed no threads then, says 255
  pub room_unlisted : (s k : ℕ) → ((t : ℕ) → Memᴰ (site s t) net.plan → ⊥)
      → (told_roomed (room_at net s k) ≡ level_refusal) × (room_answer (threads net.plan s) (own_book net s) k ≡ site_refusal)
  unfolding room_at room_answer refuses_site
  room_unlisted s k unlisted = rw (no_threads s unlisted) (refl, refl)

  -- the node of a start or a call that is accepted has a record
  opened-known : (command : Command) (parent ticket node : ℕ) → OpensCall command parent ticket node → fault net command ≡ 0
      → has_node net.plan node ≡ true
  opened-known (start t n) parent ticket node by_start e = (start_fits net ticket node e).listed_node
  opened-known (call p t n) parent ticket node by_call e = (call_fits net parent ticket node e).listed_node
  opened-known (return _) parent ticket node opens e = elim opens [ ]
  opened-known (take_back _) parent ticket node opens e = elim opens [ ]

  module _ (keeps : Keeps net) where
    -- a site with threads is one that the site book takes
    taken : (s : ℕ) → 0 < threads net.plan s → refuses_site (threads net.plan s) (own_book net s) ≡ false
    taken s some =
        not_refused (threads net.plan s) (own_book net s)
        (record {
          some = some;
          most = threads_most net.plan keeps.plan_passes s;
          long = counts-length net.plan s net.calls;
          within = within net.plan keeps.plan_passes net.calls keeps.nodes_known s;
          law = keeps.sites_lawful s;
        })

    module _ (s t : ℕ) (listed : Memᴰ (site s t) net.plan) where
      some-threads : 0 < t
      some-threads = ((passes_ok six net.plan keeps.plan_passes).site_range s t listed).1

      its_threads : threads net.plan s ≡ t
      its_threads = listed-threads net.plan s t (passes_ok six net.plan keeps.plan_passes).rising listed

      -- nothing of the firmware's 255 is so
      pub never-255 : refuses_site t (own_book net s) ≡ false
      never-255 = subst (λ (u : ℕ). refuses_site u (own_book net s) ≡ false) its_threads (taken s (omega (arith, its_threads, some-threads)))

      -- the room at a level, and 30 where the level is not below the threads
      pub room-agrees : (k : ℕ) → told_roomed (room_at net s k) ≡ room_answer t (own_book net s) k
      unfolding room_at room_answer
      room-agrees k =
          ⊎_elim
          (λ (h : k < t). simp (its_threads, never-255, ne_eqb t 0 (λ e. omega (arith, some-threads)), lt-ltb k t h, lt-leb t k h))
          (λ (h : t ≤ k). simp (its_threads, never-255, ne_eqb t 0 (λ e. omega (arith, some-threads)), le-ltb k t h, le-leb t k h))
          (lt_or_ge k t)

      -- how many levels may be admitted
      pub limit_agrees : limit_at net.plan net.calls s ≡ firmware t (own_book net s)
      unfolding limit_at firmware
      limit_agrees = rw (its_threads, never-255) refl

    -- a start or a call that is accepted is told what the site book tells of its level: 1 where it is admitted, 0 and the level in the way where it waits
    pub opening_agrees : (command : Command) (parent ticket node : ℕ) → OpensCall command parent ticket node → fault net command ≡ 0
        → told (step net command).answer
        ≡ admission_answer (threads net.plan (site_of net.plan node)) (own_book net (site_of net.plan node)) (level_of net.plan node)
    unfolding admission_answer
    opening_agrees command parent ticket node opens e =
        ap told (demand_2.opening_answer net command parent ticket node opens e)
        ∙ rw (taken here (omega (arith, below)), lt-leb (threads net.plan here) (level_of net.plan node) below)
        (go (may_admit (threads net.plan here) (own_book net here) (level_of net.plan node)))
      where
        here : ℕ
        here = site_of net.plan node

        below : level_of net.plan node < threads net.plan here
        below = level_below-threads net.plan keeps.plan_passes node (opened-known command parent ticket node opens e)

        in_the_way : ℕ
        in_the_way = blocking (threads net.plan here) (own_book net here) (level_of net.plan node)

        go : (b : Bool) → told (cond b active (waiting in_the_way)) ≡ 0 ∷ cond b (1 ∷ []) (0 ∷ in_the_way ∷ [])
        go true = refl
        go false = refl
