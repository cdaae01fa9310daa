-- Whom a return wakes, looked for among the keys: a key tells the site and the level of a call that waits, so that the calls which may be woken at a site are
-- those whose keys lie above its first place and up to its limit. Assumes nothing.
use Prim.Native.Nat.{ℕ, zero, suc, ◌+◌, ◌*◌, ◌≤◌, ◌<◌}
use native.Mathlib.Omega.{arith}
use mathlib.Core.Path.{◌≡◌, refl, sym, ap, ◌∙◌}
use mathlib.Core.Bool.{Bool, true, false, not, ◌&&◌, cond}
use mathlib.Core.List.{List, [], ◌∷◌}
use lib.Dec.{ltb, leb, eqb}
use borrow.Author.Tests.{eq-eqb, eqb-true, lt-ltb, le-ltb, le-leb, ltb-true, leb-true}
use Rattle.ids.specs.Limits.{most_threads, most_open}
use Rattle.lists.specs.Count.{first}
use Rattle.lists.specs.Pick.{any, tell, passes_at, first_place}
use Rattle.lists.proofs.CountLaws.{and_left, and_right, and_both, same_test, first_le}
use Rattle.lists.proofs.TellLaws.{first_same, first_passes}
use Rattle.model.specs.Site.{limit, full}
use Rattle.model.specs.Plan.{Record, threads}
use Rattle.model.specs.Net.{Call, site_of, level_of, is_on, waits_on, counts, admissible, limit_at, may_wake}
use Rattle.model.specs.Steady.{Firm}
use Rattle.model.proofs.AdmitLaws.{admissible-limit}
use Rattle.model.proofs.PlaceLaws.{level_small, threads_most}
use Rattle.table.specs.Places.{between}
use Rattle.moves.specs.Held.{Tells, key_of}

-- a key between the first place of a site and its limit
between_is : (site level s limit : ℕ) → level < most_threads → limit ≤ most_threads
    → (ltb (most_threads * s) (most_threads * site + level + 1) && leb (most_threads * site + level + 1) (most_threads * s + limit))
    ≡ (eqb site s && ltb level limit)
between_is site level s limit small most =
    same_test (ltb (most_threads * s) key && leb key (most_threads * s + limit)) (eqb site s && ltb level limit)
    (λ e.
    let low = ltb-true (most_threads * s) key (and_left (ltb (most_threads * s) key) (leb key (most_threads * s + limit)) e) in
    let high = leb-true key (most_threads * s + limit) (and_right (ltb (most_threads * s) key) (leb key (most_threads * s + limit)) e) in
    and_both (eqb site s) (ltb level limit) (eq-eqb site s (omega arith)) (lt-ltb level limit (omega arith)))
    (λ e.
    let here = eqb-true site s (and_left (eqb site s) (ltb level limit) e) in
    let below = ltb-true level limit (and_right (eqb site s) (ltb level limit) e) in
    and_both (ltb (most_threads * s) key) (leb key (most_threads * s + limit)) (lt-ltb (most_threads * s) key (omega arith))
    (le-leb key (most_threads * s + limit) (omega arith)))
  where
    key : ℕ
    key = most_threads * site + level + 1

module _ (rs : List Record) (cs : List Call) (f : Firm rs cs) where
  pub limit_small : (s : ℕ) → limit_at rs cs s ≤ most_threads
  unfolding limit_at limit
  limit_small s = omega (arith, first_le (threads rs s) (full (threads rs s) (counts rs cs s)), threads_most rs f.pass s)

  key_wakes : (s : ℕ) (c : Call)
      → (ltb (most_threads * s) (key_of rs c) && leb (key_of rs c) (most_threads * s + limit_at rs cs s)) ≡ may_wake rs cs s c
  unfolding key_of may_wake waits_on is_on
  key_wakes s c = go c.active
    where
      site : ℕ
      site = site_of rs c.node

      level : ℕ
      level = level_of rs c.node

      test : (b : Bool) → eqb site s ≡ b → (b && ltb level (limit_at rs cs s)) ≡ (b && not false && admissible rs cs c.node)
      test true e =
          ap (λ (r : ℕ). ltb level (limit_at rs cs r)) (sym (eqb-true site s e)) ∙ sym (admissible-limit rs f.pass cs f.law c.node)
      test false e = refl

      asleep : (b : Bool) → false ≡ (b && not true && admissible rs cs c.node)
      asleep true = refl
      asleep false = refl

      go : (a : Bool)
          → (ltb (most_threads * s) (cond a 0 (most_threads * site + level + 1))
          && leb (cond a 0 (most_threads * site + level + 1)) (most_threads * s + limit_at rs cs s))
          ≡ (eqb site s && not a && admissible rs cs c.node)
      go true = ap (λ (b : Bool). b && leb 0 (most_threads * s + limit_at rs cs s)) (le-ltb (most_threads * s) 0 (omega arith)) ∙ asleep (eqb site s)
      go false = between_is site level s (limit_at rs cs s) (level_small rs f.pass c.node) (limit_small s) ∙ test (eqb site s) refl

  key_passes : (ds : List Call) (s i : ℕ)
      → (ltb (most_threads * s) (tell (key_of rs) ds i) && leb (tell (key_of rs) ds i) (most_threads * s + limit_at rs cs s))
      ≡ passes_at (may_wake rs cs s) ds i
  unfolding tell passes_at
  key_passes [] s i = ap (λ (b : Bool). b && leb 0 (most_threads * s + limit_at rs cs s)) (le-ltb (most_threads * s) 0 (omega arith))
  key_passes (c ∷ ds) s zero = key_wakes s c
  key_passes (c ∷ ds) s (suc i) = key_passes ds s i

  -- the first key between the two is that of the waiter who is served
  pub waiter_is : {keys : List ℕ} → Tells (key_of rs) cs keys → (s : ℕ)
      → first most_open (between keys (most_threads * s) (most_threads * s + limit_at rs cs s))
      ≡ cond (any (may_wake rs cs s) cs) (first_place (may_wake rs cs s) cs) most_open
  unfolding between
  waiter_is {keys} t s =
      first_same most_open (between keys (most_threads * s) (most_threads * s + limit_at rs cs s)) (passes_at (may_wake rs cs s) cs)
      (λ i h.
      ap (λ (n : ℕ). ltb (most_threads * s) n && leb n (most_threads * s + limit_at rs cs s)) (t.each i) ∙ key_passes cs s i)
      ∙ first_passes (may_wake rs cs s) cs most_open f.few
