-- The net rules but the one on waiting calls are kept by each of the three things that happen to the open calls: one is opened, one is closed, one is
-- woken. Each rule by what the change does to a lookup or a count. Assumes nothing.
use Prim.Native.Nat.{ℕ, ◌+◌, ◌≤◌, ◌<◌}
use native.Mathlib.Omega.{arith}
use mathlib.Core.Path.{◌≡◌, refl, sym, ap, subst, ◌∙◌}
use mathlib.Core.Logic.{⊎_elim}
use mathlib.Core.Bool.{Bool, true, false, not, ◌||◌}
use mathlib.Core.List.Memᴰ
use mathlib.Core.List.{List, [], ◌∷◌, Memᴰ}
use mathlib.Core.Option.{Option, none, some}
use lib.ListN.{length, length-append}
use lib.Dec.{eqb}
use borrow.Author.Tests.{eqb-true, eq-eqb, ne_eqb}
use Rattle.ids.specs.Limits.{no_ticket, most_open}
use Rattle.lists.specs.Count.{one}
use Rattle.lists.specs.Pick.{count, changed}
use Rattle.lists.proofs.CountLaws.{never_both, not_true_false, and_left, and_right}
use Rattle.lists.proofs.PickLaws.{count_more, count_none, count-some, count-without, count-changed, found_in, found_none, found_more, found-without}
use Rattle.lists.proofs.PickLaws.{found-changed, in_without, in_changed, changed_none, length_without, length-changed, any_none, any_some}
use Rattle.model.specs.Site.{lawful, raised}
use Rattle.model.specs.Plan.{Record, threads, has_edge, six, passes}
use Rattle.model.specs.Net.{Call, Core, has_node, site_of, level_of, has, lookup, is_child, has_child, is_on, active_on, waits_on, counts}
use Rattle.model.specs.Net.{admissible, newcomer, opened, closed, may_wake, to_wake, activated, woken}
use Rattle.model.specs.NetRules.{Keeps, parent_stands, parent_kept}
use Rattle.model.specs.Steady.{Lawful, Firm, Newcomer, Leaver, Ending, Withdrawn}
use Rattle.model.proofs.SiteLaws.{A-one, lawful_at, lawful-all}
use Rattle.model.proofs.RuleLaws.{S}
use Rattle.model.proofs.PlaceLaws.{level_small, level_below-threads}
use Rattle.model.proofs.CountsLaws.{more, counts-length, counts-opened, counts-closed, counts-woken}
use Rattle.model.proofs.AdmitLaws.{rule, rule_sound, free}

pub keeps_firm : (net : Core) → Keeps net → Firm net.plan net.calls
keeps_firm net k =
    record {
      pass = k.plan_passes;
      differ = k.tickets_differ;
      none_0 = k.no_ticket_0;
      known = k.nodes_known;
      kept = k.parents_kept;
      law = k.sites_lawful;
      few = k.few_open;
    }

-- A parent stands as long as its ticket finds it, active and with its node

pub parent_still : (rs : List Record) (cs ds : List Call) (c : Call)
    → ((p : Call) → lookup cs c.parent ≡ some p
    → (q : Call) × (lookup ds c.parent ≡ some q) × (q.node ≡ p.node) × (p.active ≡ true → q.active ≡ true))
    → parent_kept rs cs c ≡ true → parent_kept rs ds c ≡ true
unfolding parent_kept
parent_still rs cs ds c still e = go (eqb c.parent no_ticket) e
  where
    stands : (o : Option Call) → lookup cs c.parent ≡ o → parent_stands rs o c.node ≡ true → parent_stands rs (lookup ds c.parent) c.node ≡ true
    stands none f h = absurd (never_both {b = false} h refl)
    stands (some p) f h =
        let w = still p f in
        let runs = and_left p.active (has_edge rs p.node c.node) h in
        let edge = and_right p.active (has_edge rs p.node c.node) h in
        rw (w.1, w.3 runs, w.2) edge

    go : (b : Bool) → (b || parent_stands rs (lookup cs c.parent) c.node) ≡ true → (b || parent_stands rs (lookup ds c.parent) c.node) ≡ true
    go true h = refl
    go false h = stands (lookup cs c.parent) refl h

-- Lawful

-- one call more of a level that the rule does not hold back
pub more_lawful : (rs : List Record) (cs : List Call) → passes six rs ≡ true → Lawful rs cs → (n s : ℕ) → has_node rs n ≡ true → admissible rs cs n ≡ true
    → (b : Bool) → (b ≡ true → site_of rs n ≡ s) → lawful (threads rs s) (more b (counts rs cs s) (level_of rs n)) ≡ true
more_lawful rs cs pass law n s known e false here = law s
more_lawful rs cs pass law n s known e true here =
    subst (λ (r : ℕ). lawful (threads rs r) (raised (counts rs cs r) (level_of rs n)) ≡ true) (here refl)
    (S (rule (site_of rs n)) (rule_sound (site_of rs n)) (threads rs (site_of rs n)) (counts rs cs (site_of rs n)) (level_of rs n)
    (omega (arith, level_small rs pass n, counts-length rs (site_of rs n) cs))
    (level_below-threads rs pass n known)
    (law (site_of rs n))
    (free rs pass cs law n known e))

-- one call fewer
pub fewer_lawful : (T : ℕ) (a : List ℕ) (i : ℕ) → i < length a → (b : Bool) → lawful T (more b a i) ≡ true → lawful T a ≡ true
fewer_lawful T a i h true e = lawful-all T a (λ k l. omega (arith, lawful_at T (raised a i) e k l, A-one a i k h))
fewer_lawful T a i h false e = e

on_site : (rs : List Record) (s : ℕ) (c : Call) → is_on rs s c ≡ true → site_of rs c.node ≡ s
unfolding is_on
on_site rs s c e = eqb-true (site_of rs c.node) s e

pub active_site : (rs : List Record) (s : ℕ) (c : Call) → active_on rs s c ≡ true → (site_of rs c.node ≡ s) × (c.active ≡ true)
unfolding active_on
active_site rs s c e = (on_site rs s c (and_left (is_on rs s c) c.active e), and_right (is_on rs s c) c.active e)

pub waits_site : (rs : List Record) (s : ℕ) (c : Call) → waits_on rs s c ≡ true → (site_of rs c.node ≡ s) × (c.active ≡ false)
unfolding waits_on
waits_site rs s c e = (on_site rs s c (and_left (is_on rs s c) (not c.active) e), go c.active (and_right (is_on rs s c) (not c.active) e))
  where
    go : (b : Bool) → not b ≡ true → b ≡ false
    go true h = absurd (never_both {b = false} h refl)
    go false h = refl

-- Opening

module _ (rs : List Record) (cs : List Call) (f : Firm rs cs) (parent ticket node : ℕ) (ok : Newcomer rs cs parent ticket node) where
  still_found : (c : Call) (p : Call) → lookup cs c.parent ≡ some p
      → (q : Call) × (lookup (opened rs cs parent ticket node) c.parent ≡ some q) × (q.node ≡ p.node) × (p.active ≡ true → q.active ≡ true)
  unfolding opened
  still_found c p e = (p, found_more (has c.parent) cs (newcomer rs cs parent ticket node) p e, refl, λ a. a)

  -- each open call is one of before, or the newcomer
  pub in_opened : (c : Call) → Memᴰ c (opened rs cs parent ticket node) → (P : Call → Type 0)
      → ((d : Call) → Memᴰ d cs → P d) → P (newcomer rs cs parent ticket node) → P c
  unfolding opened
  in_opened c m P old fresh =
      ⊎_elim (λ i. old c i) (λ i. subst P (sym (Memᴰ.eq_of_singleton i)) fresh) (Memᴰ.append_cases cs m)

  ticket_count : (t : ℕ) → count (has t) (opened rs cs parent ticket node) ≡ count (has t) cs + one (eqb ticket t)
  unfolding opened newcomer has
  ticket_count t = count_more (has t) cs (newcomer rs cs parent ticket node)

  opened-differ : (t : ℕ) → count (has t) (opened rs cs parent ticket node) ≤ 1
  opened-differ t = go (eqb ticket t) refl
    where
      go : (b : Bool) → eqb ticket t ≡ b → count (has t) (opened rs cs parent ticket node) ≤ 1
      go true e =
          let same = eqb-true ticket t e in
          let unseen = count_none (has ticket) cs (found_none (has ticket) cs ok.new_ticket) in
          omega (arith, ticket_count t, ap one e, unseen, ap (λ (x : ℕ). count (has x) cs) same)
      go false e = omega (arith, ticket_count t, ap one e, f.differ t)

  opened_kept : (c : Call) → Memᴰ c (opened rs cs parent ticket node) → parent_kept rs (opened rs cs parent ticket node) c ≡ true
  unfolding newcomer parent_kept
  opened_kept c m =
      in_opened c m (λ d. parent_kept rs (opened rs cs parent ticket node) d ≡ true)
      (λ d i. parent_still rs cs (opened rs cs parent ticket node) d (still_found d) (f.kept d i))
      (let new = newcomer rs cs parent ticket node in
      parent_still rs cs (opened rs cs parent ticket node) new (still_found new) ok.parent_fits)

  opened_law : (s : ℕ) → lawful (threads rs s) (counts rs (opened rs cs parent ticket node) s) ≡ true
  unfolding opened newcomer
  opened_law s =
      rw (counts-opened rs s f.pass cs (newcomer rs cs parent ticket node))
      (go (active_on rs s (newcomer rs cs parent ticket node)) refl)
    where
      go : (b : Bool) → active_on rs s (newcomer rs cs parent ticket node) ≡ b → lawful (threads rs s) (more b (counts rs cs s) (level_of rs node)) ≡ true
      go true e =
          let w = active_site rs s (newcomer rs cs parent ticket node) e in
          more_lawful rs cs f.pass f.law node s ok.listed_node w.1 true (λ r. w.0)
      go false e = f.law s

  opened_few : length (opened rs cs parent ticket node) ≤ most_open
  unfolding opened
  opened_few = omega (arith, length-append cs (newcomer rs cs parent ticket node ∷ []), ok.room_left)

  pub opened_firm : Firm rs (opened rs cs parent ticket node)
  unfolding newcomer
  opened_firm =
      record {
        pass = f.pass;
        differ = opened-differ;
        none_0 = omega (arith, ticket_count no_ticket, f.none_0, ap one (ne_eqb ticket no_ticket ok.some_ticket));
        known = λ c m. in_opened c m (λ d. has_node rs d.node ≡ true) f.known ok.listed_node;
        kept = opened_kept;
        law = opened_law;
        few = opened_few;
      }

-- Closing

-- who returns may leave; and so may who waits, since nobody is beneath a call that waits
pub ending_leaves : {cs : List Call} {ticket : ℕ} {gone : Call} → Ending cs ticket gone → Leaver cs ticket gone
ending_leaves end = record { stands = end.stands; childless = end.childless }

module _ {rs : List Record} {cs : List Call} {ticket : ℕ} {gone : Call} (f : Firm rs cs) (end : Withdrawn cs ticket gone) where
  -- the parent of a call is none, or it is active
  not_beneath : (c : Call) (b : Bool) → eqb ticket no_ticket ≡ b → (b || parent_stands rs (some gone) c.node) ≡ true → ⊥
  unfolding has
  not_beneath c true q h =
      let w = found_in (has ticket) cs gone end.stands in
      let nobody = subst (λ (t : ℕ). count (has t) cs ≡ 0) (sym (eqb-true ticket no_ticket q)) f.none_0 in
      omega (arith, nobody, count-some (has ticket) cs gone w.0 w.1)
  not_beneath c false q h = never_both (and_left gone.active (has_edge rs gone.node c.node) h) end.waits

  childless : has_child cs ticket ≡ false
  unfolding has_child is_child parent_kept
  childless =
      not_true_false (has_child cs ticket)
      (λ e.
      let w = any_some (is_child ticket) cs e in
      let c = w.0 in
      let kept = subst (λ (t : ℕ). (eqb t no_ticket || parent_stands rs (lookup cs t) c.node) ≡ true) (eqb-true c.parent ticket w.2) (f.kept c w.1) in
      let found = subst (λ (o : Option Call). (eqb ticket no_ticket || parent_stands rs o c.node) ≡ true) end.stands kept in
      not_beneath c (eqb ticket no_ticket) refl found)

  pub withdrawn_leaves : Leaver cs ticket gone
  withdrawn_leaves = record { stands = end.stands; childless = childless }

module _ (rs : List Record) (cs : List Call) (f : Firm rs cs) (ticket : ℕ) (gone : Call) (end : Leaver cs ticket gone) where
  pub in_closed : (c : Call) → Memᴰ c (closed cs ticket) → Memᴰ c cs
  unfolding closed
  in_closed c m = in_without (has ticket) cs c m

  fewer_tickets : (t : ℕ) → count (has t) (closed cs ticket) ≤ count (has t) cs
  unfolding closed
  fewer_tickets t = omega (arith, count-without (has ticket) (has t) cs gone end.stands)

  -- nobody's parent is closed
  not_parent : (c : Call) → Memᴰ c cs → c.parent ≡ ticket → ⊥
  unfolding has_child is_child
  not_parent c m e = never_both (eq-eqb c.parent ticket e) (any_none (is_child ticket) cs end.childless c m)

  closed-lookup : (c : Call) → Memᴰ c cs → lookup (closed cs ticket) c.parent ≡ lookup cs c.parent
  unfolding closed has
  closed-lookup c m =
      found-without (has ticket) (has c.parent) cs
      (λ x e. ne_eqb x.ticket ticket (λ q. not_parent c m (sym (eqb-true x.ticket c.parent e) ∙ q)))

  closed_kept : (c : Call) → Memᴰ c (closed cs ticket) → parent_kept rs (closed cs ticket) c ≡ true
  closed_kept c m =
      let i = in_closed c m in
      parent_still rs cs (closed cs ticket) c (λ p e. (p, closed-lookup c i ∙ e, refl, λ a. a)) (f.kept c i)

  closed_law : (s : ℕ) → lawful (threads rs s) (counts rs (closed cs ticket) s) ≡ true
  unfolding closed
  closed_law s =
      fewer_lawful (threads rs s) (counts rs (closed cs ticket) s) (level_of rs gone.node)
      (omega (arith, level_small rs f.pass gone.node, counts-length rs s (closed cs ticket)))
      (active_on rs s gone)
      (subst (λ (a : List ℕ). lawful (threads rs s) a ≡ true) (counts-closed rs s f.pass (has ticket) cs gone end.stands) (f.law s))

  closed_few : length (closed cs ticket) ≤ most_open
  unfolding closed
  closed_few = omega (arith, length_without (has ticket) cs gone end.stands, f.few)

  pub closed_firm : Firm rs (closed cs ticket)
  closed_firm =
      record {
        pass = f.pass;
        differ = λ t. omega (arith, fewer_tickets t, f.differ t);
        none_0 = omega (arith, fewer_tickets no_ticket, f.none_0);
        known = λ c m. f.known c (in_closed c m);
        kept = closed_kept;
        law = closed_law;
        few = closed_few;
      }

-- Waking

module _ (rs : List Record) (cs : List Call) (f : Firm rs cs) (s : ℕ) where
  -- the one that is woken waited here and may be admitted
  pub to_wake_fits : (c : Call) → to_wake rs cs s ≡ some c
      → Memᴰ c cs × (site_of rs c.node ≡ s) × (c.active ≡ false) × (admissible rs cs c.node ≡ true)
  unfolding to_wake may_wake
  to_wake_fits c e =
      let w = found_in (may_wake rs cs s) cs c e in
      let here = waits_site rs s c (and_left (waits_on rs s c) (admissible rs cs c.node) w.1) in
      (w.0, here.0, here.1, and_right (waits_on rs s c) (admissible rs cs c.node) w.1)

  -- each open call is one of before, or the woken one
  pub in_woken : (c : Call) → Memᴰ c (woken rs cs s) → (P : Call → Type 0)
      → ((d : Call) → Memᴰ d cs → P d) → ((d : Call) → to_wake rs cs s ≡ some d → P (activated d)) → P c
  unfolding woken to_wake
  in_woken c m P old fresh =
      ⊎_elim (λ i. old c i) (λ w. subst P (sym w.2) (fresh w.0 w.1)) (in_changed activated (may_wake rs cs s) cs c m)

  woken_tickets : (t : ℕ) → count (has t) (woken rs cs s) ≡ count (has t) cs
  unfolding woken to_wake has
  woken_tickets t = go (to_wake rs cs s) refl
    where
      go : (o : Option Call) → to_wake rs cs s ≡ o → count (has t) (changed activated (may_wake rs cs s) cs) ≡ count (has t) cs
      go none e = ap (count (has t)) (changed_none activated (may_wake rs cs s) cs e)
      go (some c) e = omega (arith, count-changed activated (may_wake rs cs s) (has t) cs c e)

  woken_kept : (c : Call) → parent_kept rs cs c ≡ true → parent_kept rs (woken rs cs s) c ≡ true
  unfolding woken has
  woken_kept c =
      parent_still rs cs (changed activated (may_wake rs cs s) cs) c
      (λ p e.
      ⊎_elim
      (λ q. (p, q, refl, λ a. a))
      (λ q. (activated p, q, refl, λ a. refl))
      (found-changed activated (may_wake rs cs s) (has c.parent) cs p (λ x. refl) e))

  woken_law : (r : ℕ) → lawful (threads rs r) (counts rs (woken rs cs s) r) ≡ true
  unfolding woken to_wake
  woken_law r = go (to_wake rs cs s) refl
    where
      go : (o : Option Call) → to_wake rs cs s ≡ o → lawful (threads rs r) (counts rs (changed activated (may_wake rs cs s) cs) r) ≡ true
      go none e = rw (changed_none activated (may_wake rs cs s) cs e) (f.law r)
      go (some c) e =
          let w = to_wake_fits c e in
          rw (counts-woken rs r f.pass (may_wake rs cs s) cs c e w.2)
          (more_lawful rs cs f.pass f.law c.node r (f.known c w.0) w.3 (is_on rs r c) (on_site rs r c))

  pub woken_firm : Firm rs (woken rs cs s)
  unfolding woken parent_kept
  woken_firm =
      record {
        pass = f.pass;
        differ = λ t. omega (arith, woken_tickets t, f.differ t);
        none_0 = omega (arith, woken_tickets no_ticket, f.none_0);
        known = λ c m. in_woken c m (λ d. has_node rs d.node ≡ true) f.known (λ d e. f.known d (to_wake_fits d e).0);
        kept = λ c m.
            in_woken c m (λ d. parent_kept rs (woken rs cs s) d ≡ true)
            (λ d i. woken_kept d (f.kept d i))
            (λ d e. woken_kept d (f.kept d (to_wake_fits d e).0));
        law = woken_law;
        few = omega (arith, length-changed activated (may_wake rs cs s) cs, f.few);
      }
