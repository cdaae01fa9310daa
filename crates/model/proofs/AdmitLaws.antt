-- Who may be given a thread at a lawful site: below the limit and only there, which is where the site's rule does not block. What the net's theorems
-- need of the rule is in `free`, `blocked` and `rule_sound`; the rest goes by the facts of every sound rule. Assumes nothing.
use Prim.Native.Nat.{ℕ, ◌≤◌}
use native.Mathlib.Omega.{arith}
use mathlib.Core.Path.{◌≡◌, refl, sym, ap, ◌∙◌}
use mathlib.Core.Logic.{◌↔◌}
use mathlib.Core.Bool.{Bool, true, false, ◌&&◌}
use mathlib.Core.List.{List, Memᴰ}
use lib.ListN.{length}
use lib.Dec.{leb, ltb, eqb}
use borrow.Author.Tests.{eqb-true, lt-leb, ltb-true, ltb-false}
use Rattle.lists.proofs.CountLaws.{not_true_false, and_left, and_right}
use Rattle.lists.proofs.PickLaws.{count_none, some_counted}
use Rattle.model.specs.Site.{A}
use Rattle.model.specs.Rule.{Rule, live_p, Blocked, Sound}
use Rattle.model.specs.Paper.{φ', InUse}
use Rattle.model.specs.Plan.{Record, threads, six, passes}
use Rattle.model.specs.Net.{Call, has_node, site_of, level_of, is_on, active_on, at_or_above, counts, admissible, limit_at}
use Rattle.model.specs.Steady.{Lawful}
use Rattle.model.proofs.RuleLaws.{live_p-sound, under_limit, over_limit, admits_below, B}
use Rattle.model.proofs.PaperLaws.{admit_φ'}
use Rattle.model.proofs.PlaceLaws.{threads_most, level_below-threads}
use Rattle.model.proofs.CountsLaws.{of_level, counts-length, counts_at, A-counts}

-- the rule of a site: live_p everywhere
unfoldable pub rule : ℕ → Rule
rule s = live_p

pub rule_sound : (s : ℕ) → Sound (rule s)
unfolding rule
rule_sound s = live_p-sound

-- what the site's rule says of a level
abbrev pub HeldBack : List Record → List Call → ℕ → ℕ → Type 0
HeldBack rs cs s i = Blocked (rule s) (threads rs s) (counts rs cs s) i

module _ (rs : List Record) (pass : passes six rs ≡ true) (cs : List Call) (all_Known : (c : Call) → Memᴰ c cs → has_node rs c.node ≡ true) where
  nothing_higher : (s : ℕ) (c : Call) → Memᴰ c cs → at_or_above rs s (threads rs s) c ≡ false
  unfolding at_or_above active_on is_on
  nothing_higher s c m = go (eqb (site_of rs c.node) s) refl c.active
    where
      go : (b : Bool) → eqb (site_of rs c.node) s ≡ b → (a : Bool) → (b && a && leb (threads rs s) (level_of rs c.node)) ≡ false
      go true e true =
          let same = eqb-true (site_of rs c.node) s e in
          lt-leb (threads rs s) (level_of rs c.node)
          (omega (arith, level_below-threads rs pass c.node (all_Known c m), ap (threads rs) same))
      go true e false = refl
      go false e a = refl

  -- no call is active at a level that the site does not have
  pub within : (s : ℕ) → A (counts rs cs s) (threads rs s) ≡ 0
  within s = A-counts rs s pass cs (threads rs s) ∙ count_none (at_or_above rs s (threads rs s)) cs (nothing_higher s)

module _ (rs : List Record) (pass : passes six rs ≡ true) (cs : List Call) (law : Lawful rs cs) where
  counts_long : (s : ℕ) → threads rs s ≤ length (counts rs cs s)
  counts_long s = omega (arith, threads_most rs pass s, counts-length rs s cs)

  -- "In every lawful state it is the largest level that may be admitted": the limit decides
  pub admissible-limit : (n : ℕ) → admissible rs cs n ≡ ltb (level_of rs n) (limit_at rs cs (site_of rs n))
  unfolding admissible limit_at
  admissible-limit n =
      let s = site_of rs n in
      admits_below (threads rs s) (counts rs cs s) (level_of rs n) (counts_long s) (law s)

  module _ (n : ℕ) (known : has_node rs n ≡ true) where
    pub free : admissible rs cs n ≡ true → HeldBack rs cs (site_of rs n) (level_of rs n) → ⊥
    unfolding rule limit_at
    free e =
        let s = site_of rs n in
        under_limit (threads rs s) (counts rs cs s) (level_of rs n) (level_below-threads rs pass n known)
        (ltb-true (level_of rs n) (limit_at rs cs s) (sym (admissible-limit n) ∙ e)) (law s)

    pub blocked : admissible rs cs n ≡ false → HeldBack rs cs (site_of rs n) (level_of rs n)
    unfolding rule limit_at
    blocked e =
        let s = site_of rs n in
        over_limit (threads rs s) (counts rs cs s) (level_of rs n) (level_below-threads rs pass n known)
        (ltb-false (level_of rs n) (limit_at rs cs s) (sym (admissible-limit n) ∙ e))

    pub held_back : HeldBack rs cs (site_of rs n) (level_of rs n) → admissible rs cs n ≡ false
    held_back b = not_true_false (admissible rs cs n) (λ e. free e b)

  -- Corollary 1 of the paper, of the net: where a node's call may not be admitted, a call of its site is active at its level or a lower one
  module _ (all_Known : (c : Call) → Memᴰ c cs → has_node rs c.node ≡ true) where
    pub blocker : (n : ℕ) → has_node rs n ≡ true → admissible rs cs n ≡ false
        → (c : Call) × Memᴰ c cs × (active_on rs (site_of rs n) c ≡ true) × (level_of rs c.node ≤ level_of rs n)
    unfolding of_level
    blocker n known e =
        let s = site_of rs n in
        let w =
        B (rule s) (rule_sound s) (threads rs s) (counts rs cs s) (level_of rs n) (level_below-threads rs pass n known) (law s) (within rs pass cs all_Known s)
        (blocked n known e)
        in
        let v = some_counted (of_level rs s w.0) cs (omega (arith, w.2, counts_at rs s pass cs w.0)) in
        let c = v.0 in
        let at_level = eqb-true (level_of rs c.node) w.0 (and_right (active_on rs s c) (eqb (level_of rs c.node) w.0) v.2) in
        (c, v.1, and_left (active_on rs s c) (eqb (level_of rs c.node) w.0) v.2, omega (arith, w.1))

    -- LIVE-P's guard, over the levels of a site's nodes: the call of a node may be admitted exactly where the paper's φ' of its level holds
    abbrev level_used : ℕ → ℕ → Type 0
    level_used s k = (n : ℕ) × (has_node rs n ≡ true) × (site_of rs n ≡ s) × (level_of rs n ≡ k)

    pub levels_in_use : (s : ℕ) → InUse (level_used s) (threads rs s) (counts rs cs s)
    unfolding of_level active_on is_on
    levels_in_use s =
        record {
          below = λ k w. omega (arith, level_below-threads rs pass w.0 w.1, ap (threads rs) w.2, w.3);
          active = λ k h.
              let v = some_counted (of_level rs s k) cs (omega (arith, counts_at rs s pass cs k)) in
              let c = v.0 in
              let here = and_left (active_on rs s c) (eqb (level_of rs c.node) k) v.2 in (
                c.node,
                all_Known c v.1,
                eqb-true (site_of rs c.node) s (and_left (is_on rs s c) c.active here),
                eqb-true (level_of rs c.node) k (and_right (active_on rs s c) (eqb (level_of rs c.node) k) v.2),
              );
        }

    pub paper_guard : (n : ℕ) → has_node rs n ≡ true
        → (admissible rs cs n ≡ true) ↔ φ' (level_used (site_of rs n)) (threads rs (site_of rs n)) (counts rs cs (site_of rs n)) (level_of rs n)
    unfolding admissible
    paper_guard n known =
        let s = site_of rs n in
        admit_φ' (level_used s) (threads rs s) (counts rs cs s) (level_of rs n) (levels_in_use s) (n, known, refl, refl) (counts_long s)
