-- One call more in an array of counts: one more at its site and level where it is active. Shown through how many active calls have a level. Assumes nothing.
use Prim.Native.Nat.{ℕ, ◌+◌, ◌*◌, ◌≤◌, ◌<◌}
use native.Mathlib.Omega.{arith}
use mathlib.Core.Path.{◌≡◌, refl, sym, ap, subst, ◌∙◌}
use mathlib.Core.Logic.{⊎_elim}
use mathlib.Core.Bool.{Bool, true, false, ◌&&◌}
use mathlib.Core.List.{List, [], ◌∷◌, ◌++◌}
use lib.ListN.{length, get_or, set, length-set}
use lib.Seq.{get_or-set_same, get_or-set_other}
use lib.Dec.{eqb}
use borrow.Author.Tests.{eq-eqb, eqb-true}
use Rattle.ids.specs.Limits.{sites, most_threads}
use Rattle.lists.specs.Count.{one}
use Rattle.lists.proofs.CountLaws.{true_or_false, never_both}
use Rattle.lists.proofs.PickLaws.{count_more}
use Rattle.model.specs.Plan.{Record, six, passes}
use Rattle.model.specs.Net.{Call, site_of, level_of, is_on, active_on}
use Rattle.model.proofs.PlaceLaws.{site_small, level_small}
use Rattle.model.proofs.CountsLaws.{of_level, counts_at}
use Rattle.moves.proofs.KeyLaws.{key_active, key_waits}
use Rattle.tally.specs.Tally.{CountsTell, TooMany, Behind}

-- who is counted at a level of a site
counted_there : (rs : List Record) (c : Call) → c.active ≡ true → of_level rs (site_of rs c.node) (level_of rs c.node) c ≡ true
unfolding of_level active_on is_on
counted_there rs c e =
    rw (e, eq-eqb (site_of rs c.node) (site_of rs c.node) refl, eq-eqb (level_of rs c.node) (level_of rs c.node) refl)

not_counted : (rs : List Record) (s k : ℕ) (c : Call) → c.active ≡ false → of_level rs s k c ≡ false
unfolding of_level active_on is_on
not_counted rs s k c e = rw e (go (eqb (site_of rs c.node) s))
  where
    go : (b : Bool) → ((b && false) && eqb (level_of rs c.node) k) ≡ false
    go true = refl
    go false = refl

counted_where : (rs : List Record) (s k : ℕ) (c : Call) → of_level rs s k c ≡ true → (site_of rs c.node ≡ s) × (level_of rs c.node ≡ k)
unfolding of_level active_on is_on
counted_where rs s k c = go (eqb (site_of rs c.node) s) refl c.active (eqb (level_of rs c.node) k) refl
  where
    go : (a : Bool) → eqb (site_of rs c.node) s ≡ a → (b d : Bool) → eqb (level_of rs c.node) k ≡ d → ((a && b) && d) ≡ true
        → (site_of rs c.node ≡ s) × (level_of rs c.node ≡ k)
    go true p true true q e = (eqb-true (site_of rs c.node) s p, eqb-true (level_of rs c.node) k q)
    go true p true false q e = absurd (never_both {b = false} e refl)
    go true p false d q e = absurd (never_both {b = false} e refl)
    go false p b d q e = absurd (never_both {b = false} e refl)

module _ {rs : List Record} {cs : List Call} {c : Call} {key node : ℕ} {places levels old : List ℕ} (b : Behind rs cs c key node places levels old) where
  abbrev pass : passes six rs ≡ true
  pass = b.placing.pass

  abbrev site : ℕ
  site = site_of rs c.node

  abbrev level : ℕ
  level = level_of rs c.node

  -- the call's node, and its place among the counts
  pub node_at : node < 64
  node_at = omega (arith, b.node_is, b.placing.nodes_inside c.node b.known)

  pub place_at : most_threads * get_or places node 0 + get_or levels node 0 ≡ most_threads * site + level
  place_at =
      omega (
        arith,
        ap (λ (n : ℕ). get_or places n 0) b.node_is,
        ap (λ (n : ℕ). get_or levels n 0) b.node_is,
        b.placing.places_are c.node b.known,
        b.placing.levels_are c.node b.known,
      )

  site_in : site < sites
  site_in = site_small rs pass c.node b.known

  level_in : level < most_threads
  level_in = level_small rs pass c.node

  pub inside : most_threads * get_or places node 0 + get_or levels node 0 < length old
  inside = omega (arith, place_at, site_in, level_in, b.told.whole)

  -- the counts with one call more
  more_told : (new : List ℕ) → length new ≡ length old
      → ((s k : ℕ) → s < sites → k < most_threads
      → get_or new (most_threads * s + k) 0 ≡ get_or old (most_threads * s + k) 0 + one (of_level rs s k c))
      → CountsTell rs (cs ++ (c ∷ [])) new
  more_told new long h =
      record {
        whole = long ∙ b.told.whole;
        each = λ s k hs hk.
            omega (
              arith,
              h s k hs hk,
              b.told.each s k hs hk,
              counts_at rs s pass cs k,
              counts_at rs s pass (cs ++ (c ∷ [])) k,
              count_more (of_level rs s k) cs c,
            );
      }

  pub raised_not : (key ≡ 0 → ⊥) → CountsTell rs (cs ++ (c ∷ [])) old
  raised_not ne =
      let waits = key_waits rs c (λ e. ne (b.key_is ∙ e)) in
      more_told old refl (λ s k hs hk. omega (arith, ap one (not_counted rs s k c waits)))

  module _ (zero-key : key ≡ 0) (at : ℕ) (at_is : at ≡ most_threads * get_or places node 0 + get_or levels node 0) where
    active : c.active ≡ true
    active = key_active rs c (sym b.key_is ∙ zero-key)

    module _ (v : ℕ) (v-is : v ≡ get_or old at 0 + 1) where
      abbrev new : List ℕ
      new = set old at v

      new_at : (s k : ℕ) → s < sites → k < most_threads
          → get_or new (most_threads * s + k) 0 ≡ get_or old (most_threads * s + k) 0 + one (of_level rs s k c)
      new_at s k hs hk = ⊎_elim here elsewhere (true_or_false (of_level rs s k c))
        where
          here : of_level rs s k c ≡ true → get_or new (most_threads * s + k) 0 ≡ get_or old (most_threads * s + k) 0 + one (of_level rs s k c)
          here e =
              let who = counted_where rs s k c e in
              let there : at ≡ most_threads * s + k = omega (arith, place_at, at_is, who.0, who.1) in
              subst (λ (n : ℕ). get_or new n 0 ≡ get_or old n 0 + one (of_level rs s k c)) there
              (get_or-set_same old at v 0 (omega (arith, at_is, inside)) ∙ omega (arith, v-is, ap one e))

          elsewhere : of_level rs s k c ≡ false → get_or new (most_threads * s + k) 0 ≡ get_or old (most_threads * s + k) 0 + one (of_level rs s k c)
          elsewhere e =
              get_or-set_other old at (most_threads * s + k) v 0
              (λ q.
              let same-site : site ≡ s = omega (arith, place_at, at_is, level_in) in
              let same-level : level ≡ k = omega (arith, place_at, at_is, level_in) in
              never_both
              (subst (λ (n : ℕ). of_level rs s n c ≡ true) same-level
              (subst (λ (n : ℕ). of_level rs n level c ≡ true) same-site (counted_there rs c active)))
              e)
              ∙ omega (arith, ap one e)

      pub raised_more : CountsTell rs (cs ++ (c ∷ [])) new
      raised_more = more_told new (length-set old at v) new_at

    pub raised_over : 255 ≤ get_or old at 0 → TooMany rs (cs ++ (c ∷ []))
    raised_over full =
        record {
          site = site;
          level = level;
          site_inside = site_in;
          level_inside = level_in;
          many =
              omega (
                arith,
                counts_at rs site pass (cs ++ (c ∷ [])) level,
                count_more (of_level rs site level) cs c,
                ap one (counted_there rs c active),
                counts_at rs site pass cs level,
                b.told.each site level site_in level_in,
                ap (λ (n : ℕ). get_or old n 0) (at_is ∙ place_at),
              );
        }
