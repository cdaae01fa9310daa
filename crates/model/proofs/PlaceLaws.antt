-- What a plan whose records pass says of its nodes: a listed node has its record, its level is below its site's threads, and no site has more than 64.
-- From the file rules as statements about the whole plan. Assumes nothing.
use Prim.Native.Nat.{ℕ, ◌≤◌, ◌<◌}
use native.Mathlib.Omega.{arith}
use mathlib.Core.Path.{◌≡◌, refl, sym, subst}
use mathlib.Core.Logic.{⊎_elim}
use mathlib.Core.Bool.{true}
use mathlib.Core.List.{List, Memᴰ}
use mathlib.Core.Option.{Option, none, some}
use lib.Dec.{T, eqb, leb}
use mir.Facts.{yes_and}
use borrow.Author.Tests.{eq-eqb, le-leb}
use Rattle.ids.specs.Limits.{sites, most_threads}
use Rattle.lists.proofs.CountLaws.{never_both, lt_or_ge}
use Rattle.model.specs.Plan.{Record, node, Place, place, present, threads, six, passes, descends, site_steps, listed}
use Rattle.model.specs.Net.{has_node, site_of, level_of, place_site, place_level}
use Rattle.model.proofs.GraphLaws.{yes}
use Rattle.model.proofs.RecordLaws.{threads-listed, listed-threads, place-listed, passes_ok, levels_below}
use Rattle.model.proofs.PlanLaws.{node_listed}

module _ (rs : List Record) where
  -- the place of a node that has a record
  pub placed : (n : ℕ) → has_node rs n ≡ true → place rs n ≡ some (record { at = site_of rs n; level = level_of rs n })
  unfolding has_node site_of level_of
  placed n e = go (place rs n) e
    where
      go : (o : Option Place) → present o ≡ true → o ≡ some (record { at = place_site o; level = place_level o })
      go none f = absurd (never_both f refl)
      go (some p) f = refl

  pub node_record : (n : ℕ) → has_node rs n ≡ true → Memᴰ (node n (site_of rs n) (level_of rs n)) rs
  node_record n e = place-listed rs n (record { at = site_of rs n; level = level_of rs n }) (placed n e)

  -- a listed node is one of the plan's
  pub known-listed : (n : ℕ) → has_node rs n ≡ true → Memᴰ n (listed rs)
  known-listed n e = node_listed rs n (site_of rs n) (level_of rs n) (node_record n e)

  -- two listed nodes of one site, the second of no higher level, are a step within the site
  pub site_step : (n m : ℕ) → has_node rs n ≡ true → has_node rs m ≡ true → site_of rs n ≡ site_of rs m → level_of rs m ≤ level_of rs n
      → T (site_steps rs n m)
  unfolding site_steps
  site_step n m en em same low =
      subst (λ (o : Option Place). T (descends o (place rs m))) (sym (placed n en))
      (subst (λ (o : Option Place). T (descends (some (record { at = site_of rs n; level = level_of rs n })) o)) (sym (placed m em))
      (yes_and (eqb (site_of rs n) (site_of rs m)) (leb (level_of rs m) (level_of rs n)) (yes (eq-eqb (site_of rs n) (site_of rs m) same))
      (yes (le-leb (level_of rs m) (level_of rs n) low))))

  module _ (pass : passes six rs ≡ true) where
    pub threads_most : (s : ℕ) → threads rs s ≤ most_threads
    threads_most s =
        ⊎_elim
        (λ (p : 0 < threads rs s).
        let w = (passes_ok six rs pass).site_range s (threads rs s) (threads-listed rs s (λ z. omega arith)) in
        w.2)
        (λ (p : threads rs s ≤ 0). omega arith)
        (lt_or_ge 0 (threads rs s))

    -- "the level is .. below its site's threads"
    pub level_below-threads : (n : ℕ) → has_node rs n ≡ true → level_of rs n < threads rs (site_of rs n)
    level_below-threads n e =
        let ok = passes_ok six rs pass in
        let w = ok.node_site n (site_of rs n) (level_of rs n) (node_record n e) in
        omega (
          arith,
          levels_below rs pass n (site_of rs n) (level_of rs n) w.0 (node_record n e) w.1,
          listed-threads rs (site_of rs n) w.0 ok.rising w.1,
        )

    pub site_small : (n : ℕ) → has_node rs n ≡ true → site_of rs n < sites
    site_small n e =
        let ok = passes_ok six rs pass in
        let w = ok.node_site n (site_of rs n) (level_of rs n) (node_record n e) in
        (ok.site_range (site_of rs n) w.0 w.1).0

    -- every level has a place among the counts
    pub level_small : (n : ℕ) → level_of rs n < most_threads
    unfolding has_node level_of
    level_small n = go (place rs n) refl
      where
        go : (o : Option Place) → place rs n ≡ o → place_level o < most_threads
        go none e = omega arith
        go (some p) e =
            let ok = passes_ok six rs pass in
            let w = ok.node_site n p.at p.level (place-listed rs n p e) in
            let range = ok.site_range p.at w.0 w.1 in
            omega (arith, levels_below rs pass n p.at p.level w.0 (place-listed rs n p e) w.1, range.2)
