-- No waiting call may be admitted: kept when a call is opened, since more calls never unblock (M), and when one returns, since one admission is enough
-- (X, at the lower of two waiters' levels, both blocked before). Assumes nothing.
use Prim.Native.Nat.{ℕ, ◌+◌, ◌≤◌, ◌<◌}
use native.Mathlib.Nat.{le_refl}
use native.Mathlib.Omega.{arith}
use mathlib.Core.Path.{◌≡◌, refl, sym, ap, subst, ◌∙◌}
use mathlib.Core.Logic.{◌⊎◌, inl, inr, ⊎_elim}
use mathlib.Core.Bool.{Bool, true, false, not, ◌&&◌}
use mathlib.Core.List.{List, [], ◌∷◌, Memᴰ}
use mathlib.Core.Option.{Option, none, some}
use lib.ListN.{length}
use lib.Dec.{leb, eqb}
use borrow.Author.Tests.{eqb-true, eqb-false, eq-eqb, ne_eqb}
use Rattle.lists.specs.Pick.{changed}
use Rattle.lists.proofs.CountLaws.{true_or_false, never_both, lt_or_ge}
use Rattle.lists.proofs.PickLaws.{one_most, found_in, found_none, changed_none}
use Rattle.model.specs.Site.{A, raised, may_admit}
use Rattle.model.specs.Rule.{Blocked}
use Rattle.model.specs.Plan.{Record, threads}
use Rattle.model.specs.Net.{Call, has_node, site_of, level_of, has, is_on, active_on, waits_on, counts, admissible, newcomer, opened, closed}
use Rattle.model.specs.Net.{may_wake, to_wake, activated, woken}
use Rattle.model.specs.NetRules.{could_go}
use Rattle.model.specs.Steady.{Firm, Newcomer, Ending, Withdrawn}
use Rattle.model.proofs.SiteLaws.{A-one, A_kept}
use Rattle.model.proofs.RuleLaws.{D, M, X}
use Rattle.model.proofs.PlaceLaws.{level_small}
use Rattle.model.proofs.CountsLaws.{more, counts-length, counts-opened, counts-closed, counts-woken}
use Rattle.model.proofs.AdmitLaws.{rule, rule_sound, HeldBack, free, blocked, held_back}
use Rattle.model.proofs.FirmLaws.{opened_firm, ending_leaves, withdrawn_leaves, closed_firm, woken_firm, in_opened, in_closed, to_wake_fits, in_woken}

abbrev pub Settled : List Record → List Call → Type 0
Settled rs cs = (c : Call) → Memᴰ c cs → could_go rs cs c ≡ false

-- a call that waits and may not go
pub waits_held : (rs : List Record) (cs : List Call) (c : Call) → could_go rs cs c ≡ false → c.active ≡ false → admissible rs cs c.node ≡ false
unfolding could_go
waits_held rs cs c e w = go c.active w e
  where
    go : (b : Bool) → b ≡ false → (not b && admissible rs cs c.node) ≡ false → admissible rs cs c.node ≡ false
    go true q h = absurd (never_both {b = true} refl q)
    go false q h = h

pub held_waits : (rs : List Record) (cs : List Call) (c : Call) → (c.active ≡ false → admissible rs cs c.node ≡ false) → could_go rs cs c ≡ false
unfolding could_go
held_waits rs cs c h = go c.active h
  where
    go : (b : Bool) → (b ≡ false → admissible rs cs c.node ≡ false) → (not b && admissible rs cs c.node) ≡ false
    go true g = refl
    go false g = g refl

-- who may not be admitted may not where no level has fewer calls
still_held : (rs : List Record) (cs ds : List Call) → Firm rs cs → Firm rs ds → (n : ℕ) → has_node rs n ≡ true
    → ((k : ℕ) → A (counts rs cs (site_of rs n)) k ≤ A (counts rs ds (site_of rs n)) k) → admissible rs cs n ≡ false → admissible rs ds n ≡ false
still_held rs cs ds f g n known no-fewer e =
    let s = site_of rs n in
    held_back rs g.pass ds g.law n known
    (M (rule s) (rule_sound s) (threads rs s) (threads rs s) (counts rs cs s) (counts rs ds s) (level_of rs n) (le_refl (threads rs s))
    (λ k h. no-fewer k) (blocked rs f.pass cs f.law n known e))

more_calls : (a : List ℕ) (b : Bool) (i k : ℕ) → i < length a → A a k ≤ A (more b a i) k
more_calls a true i k h = omega (arith, A-one a i k h)
more_calls a false i k h = le_refl (A a k)

-- Opening

module _ (rs : List Record) (cs : List Call) (f : Firm rs cs) (parent ticket node : ℕ) (ok : Newcomer rs cs parent ticket node) where
  opened_more : (s k : ℕ) → A (counts rs cs s) k ≤ A (counts rs (opened rs cs parent ticket node) s) k
  unfolding opened
  opened_more s k =
      let new = newcomer rs cs parent ticket node in
      rw (counts-opened rs s f.pass cs new)
      (more_calls (counts rs cs s) (active_on rs s new) (level_of rs new.node) k
      (omega (arith, level_small rs f.pass new.node, counts-length rs s cs)))

  pub opened_settled : Settled rs cs → Settled rs (opened rs cs parent ticket node)
  unfolding newcomer
  opened_settled settled c m =
      let ds = opened rs cs parent ticket node in
      let g = opened_firm rs cs f parent ticket node ok in
      in_opened rs cs f parent ticket node ok c m (λ d. could_go rs ds d ≡ false)
      (λ d i.
      held_waits rs ds d
      (λ w. still_held rs cs ds f g d.node (f.known d i) (opened_more (site_of rs d.node)) (waits_held rs cs d (settled d i) w)))
      (held_waits rs ds (newcomer rs cs parent ticket node)
      (λ w. still_held rs cs ds f g node ok.listed_node (opened_more (site_of rs node)) w))

-- A return

module _ (rs : List Record) (cs : List Call) (f : Firm rs cs) (settled : Settled rs cs) (ticket : ℕ) (gone : Call) (end : Ending cs ticket gone) where
  -- the calls behind the one that ended, and its site
  abbrev left : List Call
  left = closed cs ticket

  abbrev here : ℕ
  here = site_of rs gone.node

  left_firm : Firm rs left
  left_firm = closed_firm rs cs f ticket gone (ending_leaves end)

  after_firm : Firm rs (woken rs left here)
  after_firm = woken_firm rs left left_firm here

  held_before : (c : Call) → Memᴰ c left → c.active ≡ false → admissible rs cs c.node ≡ false
  held_before c m w = waits_held rs cs c (settled c (in_closed rs cs f ticket gone (ending_leaves end) c m)) w

  -- Elsewhere nothing has changed

  not_there : (s : ℕ) (c : Call) → (site_of rs c.node ≡ s → ⊥) → is_on rs s c ≡ false
  unfolding is_on
  not_there s c apart = ne_eqb (site_of rs c.node) s apart

  elsewhere : (s : ℕ) → (here ≡ s → ⊥) → counts rs (woken rs left here) s ≡ counts rs cs s
  unfolding closed woken to_wake active_on
  elsewhere s apart = go (to_wake rs left here) refl ∙ sym closed_same
    where
      closed_same : counts rs cs s ≡ counts rs left s
      closed_same =
          counts-closed rs s f.pass (has ticket) cs gone end.stands
          ∙ ap (λ (b : Bool). more (b && gone.active) (counts rs left s) (level_of rs gone.node)) (not_there s gone apart)

      go : (o : Option Call) → to_wake rs left here ≡ o → counts rs (changed activated (may_wake rs left here) left) s ≡ counts rs left s
      go none e = ap (λ (ds : List Call). counts rs ds s) (changed_none activated (may_wake rs left here) left e)
      go (some d) e =
          let w = to_wake_fits rs left left_firm here d e in
          counts-woken rs s f.pass (may_wake rs left here) left d e w.2
          ∙ ap (λ (b : Bool). more b (counts rs left s) (level_of rs d.node)) (not_there s d (λ q. apart (sym w.1 ∙ q)))

  -- Here nobody was admitted, so nobody who waits may be

  nobody_left : to_wake rs left here ≡ none → (c : Call) → Memᴰ c left → c.active ≡ false → site_of rs c.node ≡ here
      → admissible rs (woken rs left here) c.node ≡ false
  unfolding to_wake woken may_wake waits_on is_on
  nobody_left e c m w same =
      rw (changed_none activated (may_wake rs left here) left e) (go (admissible rs left c.node) refl)
    where
      go : (b : Bool) → admissible rs left c.node ≡ b → b ≡ false
      go true q =
          let quiet = found_none (may_wake rs left here) left e c m in
          let loud : (eqb (site_of rs c.node) here && not c.active && admissible rs left c.node) ≡ true =
          rw (eq-eqb (site_of rs c.node) here same, w, q)
          in
          absurd (never_both loud quiet)
      go false q = refl

  -- Or one was, and then the others are held back as before

  module _ (d : Call) (chosen : to_wake rs left here ≡ some d) where
    thread_back : (k : ℕ) → A (counts rs cs here) k ≤ A (counts rs left here) k + 1
    unfolding closed
    thread_back k =
        rw (counts-closed rs here f.pass (has ticket) cs gone end.stands)
        (go (active_on rs here gone))
      where
        go : (b : Bool) → A (more b (counts rs left here) (level_of rs gone.node)) k ≤ A (counts rs left here) k + 1
        go true =
            omega (
              arith,
              A-one (counts rs left here) (level_of rs gone.node) k
                  (omega (arith, level_small rs f.pass gone.node, counts-length rs here left)),
              one_most (leb k (level_of rs gone.node)),
            )
        go false = omega arith

    counts_here : counts rs (woken rs left here) here ≡ raised (counts rs left here) (level_of rs d.node)
    unfolding woken to_wake is_on
    counts_here =
        let w = to_wake_fits rs left left_firm here d chosen in
        counts-woken rs here f.pass (may_wake rs left here) left d chosen w.2
        ∙ ap (λ (b : Bool). more b (counts rs left here) (level_of rs d.node)) (eq-eqb (site_of rs d.node) here w.1)

    -- a level at or below that of the woken one is blocked if it was
    still_blocked : (i : ℕ) → i ≤ level_of rs d.node → HeldBack rs cs here i → HeldBack rs (woken rs left here) here i
    still_blocked i low b =
        subst (λ (a : List ℕ). Blocked (rule here) (threads rs here) a i) (sym counts_here)
        (X (rule here) (rule_sound here) (threads rs here) (threads rs here) (counts rs cs here) (counts rs left here) 1 i (level_of rs d.node ∷ [])
        thread_back
        (low, omega (arith, level_small rs f.pass d.node, counts-length rs here left), tt)
        (omega arith)
        b)

    others_held : (c : Call) → Memᴰ c left → c.active ≡ false → site_of rs c.node ≡ here
        → HeldBack rs (woken rs left here) here (level_of rs c.node)
    others_held c m w same =
        let e = to_wake_fits rs left left_firm here d chosen in
        ⊎_elim
        (λ (p : level_of rs c.node < level_of rs d.node). still_blocked (level_of rs c.node) (omega arith) (was c m w same))
        (λ (p : level_of rs d.node ≤ level_of rs c.node).
        D (rule here) (rule_sound here) (threads rs here) (counts rs (woken rs left here) here) (level_of rs d.node) (level_of rs c.node) p
        (still_blocked (level_of rs d.node) (le_refl (level_of rs d.node)) (was d e.0 e.2 e.1)))
        (lt_or_ge (level_of rs c.node) (level_of rs d.node))
      where
        was : (x : Call) → Memᴰ x left → x.active ≡ false → site_of rs x.node ≡ here → HeldBack rs cs here (level_of rs x.node)
        was x i w q =
            subst (λ (s : ℕ). HeldBack rs cs s (level_of rs x.node)) q
            (blocked rs f.pass cs f.law x.node (left_firm.known x i) (held_before x i w))

  -- "after it no other waiting call there is admissible" ("At most one is admitted": `order-woken`, of OrderLaws)
  pub one-is_enough : (c : Call) → Memᴰ c left → c.active ≡ false → site_of rs c.node ≡ here
      → admissible rs (woken rs left here) c.node ≡ false
  one-is_enough c m w same = go (to_wake rs left here) refl
    where
      go : (o : Option Call) → to_wake rs left here ≡ o → admissible rs (woken rs left here) c.node ≡ false
      go none e = nobody_left e c m w same
      go (some d) e =
          held_back rs f.pass (woken rs left here) after_firm.law c.node (left_firm.known c m)
          (subst (λ (s : ℕ). HeldBack rs (woken rs left here) s (level_of rs c.node)) (sym same) (others_held d e c m w same))

  -- A thread that comes back below the lowest full level leaves that level full, and nobody who waits may go

  ended_known : has_node rs gone.node ≡ true
  ended_known = f.known gone (found_in (has ticket) cs gone end.stands).0

  still_full : (k : ℕ) → level_of rs gone.node < k → A (counts rs cs here) k ≡ A (counts rs left here) k
  unfolding closed
  still_full k high =
      rw (counts-closed rs here f.pass (has ticket) cs gone end.stands)
      (go (active_on rs here gone))
    where
      go : (b : Bool) → A (more b (counts rs left here) (level_of rs gone.node)) k ≡ A (counts rs left here) k
      go true = A_kept (counts rs left here) (level_of rs gone.node) k high
      go false = refl

  held_after : admissible rs cs gone.node ≡ true → (i : ℕ) → HeldBack rs cs here i → HeldBack rs left here i
  unfolding rule
  held_after could i b =
      ⊎_elim
      (λ (high : level_of rs gone.node < b.0). (b.0, b.1, b.2, omega (arith, b.3, still_full b.0 high)))
      (λ (low : b.0 ≤ level_of rs gone.node). absurd (free rs f.pass cs f.law gone.node ended_known could (b.0, b.1, (low, b.2.1), b.3)))
      (lt_or_ge (level_of rs gone.node) b.0)

  pub nobody_freed : admissible rs cs gone.node ≡ true → to_wake rs left here ≡ none
  nobody_freed could = go (to_wake rs left here) refl
    where
      go : (o : Option Call) → to_wake rs left here ≡ o → o ≡ none
      go none e = refl
      go (some d) e =
          let w = to_wake_fits rs left left_firm here d e in
          let known = left_firm.known d w.0 in
          let before = blocked rs f.pass cs f.law d.node known (held_before d w.0 w.2) in
          let level = level_of rs d.node in
          let after = held_after could level (subst (λ (s : ℕ). HeldBack rs cs s level) w.1 before) in
          let held = held_back rs f.pass left left_firm.law d.node known (subst (λ (s : ℕ). HeldBack rs left s level) (sym w.1) after) in
          absurd (never_both w.3 held)

  pub returned_settled : Settled rs (woken rs left here)
  returned_settled c m =
      in_woken rs left left_firm here c m (λ d. could_go rs (woken rs left here) d ≡ false)
      (λ d i. held_waits rs (woken rs left here) d (λ w. at-site d i w (true_or_false (eqb here (site_of rs d.node)))))
      (λ d e. held_waits rs (woken rs left here) (activated d) (λ w. absurd (never_both {b = true} refl w)))
    where
      at-site : (d : Call) → Memᴰ d left → d.active ≡ false
          → (eqb here (site_of rs d.node) ≡ true) ⊎ (eqb here (site_of rs d.node) ≡ false) → admissible rs (woken rs left here) d.node ≡ false
      at-site d i w (inl e) = one-is_enough d i w (sym (eqb-true here (site_of rs d.node) e))
      at-site d i w (inr e) =
          let s = site_of rs d.node in
          let same = elsewhere s (eqb-false here s e) in
          still_held rs cs (woken rs left here) f after_firm d.node (left_firm.known d i)
          (λ k. omega (arith, ap (λ (a : List ℕ). A a k) same)) (held_before d i w)

-- A taking back

module _ (rs : List Record) (cs : List Call) (f : Firm rs cs) (ticket : ℕ) (gone : Call) (end : Withdrawn cs ticket gone) where
  -- a call that waits is not counted
  pub counts_withdrawn : (s : ℕ) → counts rs (closed cs ticket) s ≡ counts rs cs s
  unfolding closed active_on
  counts_withdrawn s =
      sym
      (counts-closed rs s f.pass (has ticket) cs gone end.stands
      ∙ ap (λ (b : Bool). more (is_on rs s gone && b) (counts rs (closed cs ticket) s) (level_of rs gone.node)) end.waits
      ∙ go (is_on rs s gone))
    where
      go : (b : Bool) → more (b && false) (counts rs (closed cs ticket) s) (level_of rs gone.node) ≡ counts rs (closed cs ticket) s
      go true = refl
      go false = refl

  -- "nobody becomes admissible by it"
  pub nobody_more : (n : ℕ) → admissible rs (closed cs ticket) n ≡ admissible rs cs n
  unfolding admissible
  nobody_more n = ap (λ (a : List ℕ). may_admit (threads rs (site_of rs n)) a (level_of rs n)) (counts_withdrawn (site_of rs n))

  pub withdrawn_settled : Settled rs cs → Settled rs (closed cs ticket)
  unfolding could_go
  withdrawn_settled settled c m =
      ap (λ (b : Bool). not c.active && b) (nobody_more c.node) ∙ settled c (in_closed rs cs f ticket gone (withdrawn_leaves f end) c m)
