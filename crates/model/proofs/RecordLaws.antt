-- A plan passes the checks on one record after another exactly when its records are as document 01 asks of the whole plan: a lookup finds
-- what is listed because the records rise, and what a record names stands before it because kinds never fall. Assumes nothing.
use Prim.Native.Nat.{ℕ, ◌≤◌, ◌<◌}
use native.Mathlib.Omega.{arith}
use mathlib.Core.Path.{◌≡◌, refl, sym, ap, subst}
use mathlib.Core.Logic.{⊎_elim, ◌↔◌}
use mathlib.Core.Bool.{Bool, true, false, not, ◌&&◌}
use mathlib.Core.List.{List, [], ◌∷◌, Memᴰ}
use mathlib.Core.Option.{Option, none, some}
use lib.Dec.{ltb, leb, eqb}
use borrow.Author.Tests.{ltb-true, lt-ltb, leb-true, le-leb, eqb-false, ne_eqb, not-true}
use Rattle.lists.proofs.CountLaws.{never_both, and_left, and_right, and_both}
use Rattle.ids.specs.Limits.{sites, most_threads, nodes, most_edges}
use Rattle.model.specs.Plan.{Record, site, node, edge, Place, as_site, as_node, sites_of, nodes_of, entry, or_zero, threads, place, present}
use Rattle.model.specs.Plan.{edges, Levels, six, first_fault, in_range, known, level_below, room_for, record_fault, passes}
use Rattle.model.specs.Records.{kind, Rises, Rising, Listed, RecordsOk, LevelsBelow, LevelsPass}
use Rattle.model.proofs.KindLaws.{never_falls, follows-all, all-follows, past, rises_number, site_only, node_only, in_sites, sites_in}
use Rattle.model.proofs.KindLaws.{in_nodes, nodes_in, Falling, entry_in, in_entry, falling}
use Rattle.model.proofs.TestLaws.{record_sound}
use Rattle.model.proofs.ScanLaws.{passes-step}

-- Lookups find what is listed

sites_fall : (rs : List Record) → Rising rs → Falling (sites_of rs)
sites_fall =
    falling as_site
    (λ q r x y h e f.
    let a = site_only q x e in
    let b = site_only r y f in
    rises_number (subst (Rises (site x.0 x.1)) b (subst (λ (s : Record). Rises s r) a h)) refl refl)

nodes_fall : (rs : List Record) → Rising rs → Falling (nodes_of rs)
nodes_fall =
    falling as_node
    (λ q r x y h e f.
    let a = node_only q x e in
    let b = node_only r y f in
    rises_number (subst (Rises (node x.0 x.1.at x.1.level)) b (subst (λ (s : Record). Rises s r) a h)) refl refl)

pub threads-listed : (rs : List Record) (s : ℕ) → (threads rs s ≡ 0 → ⊥) → Memᴰ (site s (threads rs s)) rs
unfolding threads
threads-listed rs s h = go (entry (sites_of rs) s) refl h
  where
    go : (o : Option ℕ) → entry (sites_of rs) s ≡ o → (or_zero o ≡ 0 → ⊥) → Memᴰ (site s (or_zero o)) rs
    go none e f = absurd (f refl)
    go (some t) e f = in_sites rs (entry_in (sites_of rs) s t e)

pub listed-threads : (rs : List Record) (s t : ℕ) → Rising rs → Memᴰ (site s t) rs → threads rs s ≡ t
unfolding threads
listed-threads rs s t h m = ap or_zero (in_entry (sites_of rs) s t (sites_fall rs h) (sites_in rs m))

pub place-listed : (rs : List Record) (n : ℕ) (p : Place) → place rs n ≡ some p → Memᴰ (node n p.at p.level) rs
unfolding place
place-listed rs n p e = in_nodes rs (entry_in (nodes_of rs) n p e)

pub listed-place : (rs : List Record) (n s l : ℕ) → Rising rs → Memᴰ (node n s l) rs → place rs n ≡ some (record { at = s; level = l })
unfolding place
listed-place rs n s l h m = in_entry (nodes_of rs) n (record { at = s; level = l }) (nodes_fall rs h) (nodes_in rs m)

present-listed : (rs : List Record) (n : ℕ) → present (place rs n) ≡ true → Listed rs n
present-listed rs n e = go (place rs n) refl e
  where
    go : (o : Option Place) → place rs n ≡ o → present o ≡ true → Listed rs n
    go none q f = absurd (never_both f refl)
    go (some p) q f = (p.at, p.level, place-listed rs n p q)

listed-present : (rs : List Record) (n : ℕ) → Rising rs → Listed rs n → present (place rs n) ≡ true
listed-present rs n h v = ap present (listed-place rs n v.0 v.1 h v.2)

-- One record more

range_is : (s t : ℕ) → (in_range (site s t) ≡ true) ↔ (s < sites) × (0 < t) × (t ≤ most_threads)
unfolding in_range
range_is s t = (from, into)
  where
    within_threads : Bool
    within_threads = ltb 0 t && leb t most_threads

    from : (ltb s sites && within_threads) ≡ true → (s < sites) × (0 < t) × (t ≤ most_threads)
    from e =
        let rest = and_right (ltb s sites) within_threads e in (
          ltb-true s sites (and_left (ltb s sites) within_threads e),
          ltb-true 0 t (and_left (ltb 0 t) (leb t most_threads) rest),
          leb-true t most_threads (and_right (ltb 0 t) (leb t most_threads) rest),
        )

    into : (s < sites) × (0 < t) × (t ≤ most_threads) → (ltb s sites && within_threads) ≡ true
    into h =
        and_both (ltb s sites) within_threads (lt-ltb s sites h.0)
        (and_both (ltb 0 t) (leb t most_threads) (lt-ltb 0 t h.1) (le-leb t most_threads h.2))

-- a record without a fault keeps the plan's records right
module _ (rs : List Record) (ok : RecordsOk rs) where
  room-count : (r : Record) → room_for rs r ≡ true → edges (r ∷ rs) ≤ most_edges
  unfolding room_for edges
  room-count (site s t) e = ok.edge_count
  room-count (node n s l) e = ok.edge_count
  room-count (edge c d) e = ltb-true (edges rs) most_edges e

  one_more : (r : Record) (levels : Levels) → record_fault levels rs r ≡ 0 → RecordsOk (r ∷ rs)
  unfolding in_range known
  one_more r levels f =
      let w = (record_sound levels rs r).0 f in
      record {
        rising = (ok.rising, follows-all rs r ok.rising w.rises);
        site_range = λ s t m.
            ⊎_elim
            (λ (e : site s t ≡ r). (range_is s t).0 (subst (λ (q : Record). in_range q ≡ true) (sym e) w.in_limits))
            (λ i. ok.site_range s t i)
            (mathlib.Core.List.Memᴰ.cases_cons m);
        node_range = λ n s l m.
            ⊎_elim
            (λ (e : node n s l ≡ r). ltb-true n nodes (subst (λ (q : Record). in_range q ≡ true) (sym e) w.in_limits))
            (λ i. ok.node_range n s l i)
            (mathlib.Core.List.Memᴰ.cases_cons m);
        node_site = λ n s l m.
            ⊎_elim
            (λ (e : node n s l ≡ r).
            let listed : not (eqb (threads rs s) 0) ≡ true = subst (λ (q : Record). known rs q ≡ true) (sym e) w.named in
            (threads rs s, mathlib.Core.List.Memᴰ.tail (threads-listed rs s (eqb-false (threads rs s) 0 (not-true (eqb (threads rs s) 0) listed)))))
            (λ i. let v = ok.node_site n s l i in (v.0, mathlib.Core.List.Memᴰ.tail v.1))
            (mathlib.Core.List.Memᴰ.cases_cons m);
        edge_nodes = λ c d m.
            ⊎_elim
            (λ (e : edge c d ≡ r).
            let both = subst (λ (q : Record). known rs q ≡ true) (sym e) w.named in (
              still (present-listed rs c (and_left (present (place rs c)) (present (place rs d)) both)),
              still (present-listed rs d (and_right (present (place rs c)) (present (place rs d)) both)),
            ))
            (λ i. let v = ok.edge_nodes c d i in (still v.0, still v.1))
            (mathlib.Core.List.Memᴰ.cases_cons m);
        edge_count = room-count r w.room;
      }
    where
      still : {n : ℕ} → Listed rs n → Listed (r ∷ rs) n
      still v = (v.0, v.1, mathlib.Core.List.Memᴰ.tail v.2)

-- and the latest record of a right plan has no fault behind the others, which are right without it, but for its level
module _ (rs : List Record) where
  -- a record of a lower kind than some record stands behind the latest one
  behind : {p q r : Record} → Rising (r ∷ rs) → kind p < kind q → Memᴰ q (r ∷ rs) → Memᴰ p (r ∷ rs) → Memᴰ p rs
  behind {p} {q} {r} h lower mq mp =
      past
      (λ e.
      ⊎_elim
      (λ (f : q ≡ r). omega (arith, ap kind f))
      (λ (j : Memᴰ q rs). omega (arith, never_falls (h.1 q j)))
      (mathlib.Core.List.Memᴰ.cases_cons mq))
      mp

  fewer : (r : Record) → edges rs ≤ edges (r ∷ rs)
  unfolding edges
  fewer (site s t) = omega arith
  fewer (node n s l) = omega arith
  fewer (edge c d) = omega arith

  module _ (r : Record) (ok : RecordsOk (r ∷ rs)) where
    site_behind : (n s l : ℕ) → Memᴰ (node n s l) (r ∷ rs) → (t : ℕ) × Memᴰ (site s t) rs
    site_behind n s l m = let v = ok.node_site n s l m in (v.0, behind ok.rising (omega arith) m v.1)

    nodes_behind : (c d : ℕ) → Memᴰ (edge c d) (r ∷ rs) → Listed rs c × Listed rs d
    nodes_behind c d m = let v = ok.edge_nodes c d m in (kept v.0, kept v.1)
      where
        kept : {n : ℕ} → Listed (r ∷ rs) n → Listed rs n
        kept v = (v.0, v.1, behind ok.rising (omega arith) m v.2)

    pub without_latest : RecordsOk rs
    without_latest =
        record {
          rising = ok.rising.0;
          site_range = λ s t m. ok.site_range s t (mathlib.Core.List.Memᴰ.tail m);
          node_range = λ n s l m. ok.node_range n s l (mathlib.Core.List.Memᴰ.tail m);
          node_site = λ n s l m. site_behind n s l (mathlib.Core.List.Memᴰ.tail m);
          edge_nodes = λ c d m. nodes_behind c d (mathlib.Core.List.Memᴰ.tail m);
          edge_count = omega (arith, fewer r, ok.edge_count);
        }

    its_threads : (n s l : ℕ) → Memᴰ (node n s l) (r ∷ rs) → (t : ℕ) × Memᴰ (site s t) rs × (threads rs s ≡ t)
    its_threads n s l m =
        let v = site_behind n s l m in (v.0, v.1, listed-threads rs s v.0 ok.rising.0 v.1)

  tests_pass : (r : Record) → RecordsOk (r ∷ rs) → (in_range r ≡ true) × (known rs r ≡ true) × (room_for rs r ≡ true)
  unfolding in_range known room_for edges
  tests_pass (site s t) ok = ((range_is s t).1 (ok.site_range s t (mathlib.Core.List.Memᴰ.head refl)), refl, refl)
  tests_pass (node n s l) ok =
      let v = its_threads (node n s l) ok n s l (mathlib.Core.List.Memᴰ.head refl) in (
        lt-ltb n nodes (ok.node_range n s l (mathlib.Core.List.Memᴰ.head refl)),
        ap not (ne_eqb (threads rs s) 0 (λ z. omega (arith, v.2, (ok.site_range s v.0 (mathlib.Core.List.Memᴰ.tail v.1)).1))),
        refl,
      )
  tests_pass (edge c d) ok =
      let v = nodes_behind (edge c d) ok c d (mathlib.Core.List.Memᴰ.head refl) in
      let h = ok.rising.0 in (
        refl,
        and_both (present (place rs c)) (present (place rs d)) (listed-present rs c h v.0) (listed-present rs d h v.1),
        lt-ltb (edges rs) most_edges ok.edge_count,
      )

  no_fault : (r : Record) (levels : Levels) → RecordsOk (r ∷ rs) → first_fault (levels.tests rs r) ≡ 0 → record_fault levels rs r ≡ 0
  no_fault r levels ok level =
      let w = tests_pass r ok in
      (record_sound levels rs r).1
      (record { rises = all-follows rs r ok.rising.1; in_limits = w.0; named = w.1; level = level; room = w.2 })

-- The whole plan, whatever the tests of its levels
module _ (levels : Levels) where
  pub passes_ok : (rs : List Record) → passes levels rs ≡ true → RecordsOk rs
  unfolding edges
  passes_ok [] p =
      record {
        rising = tt;
        site_range = λ s t m. absurd (mathlib.Core.List.Memᴰ.not-nil m);
        node_range = λ n s l m. absurd (mathlib.Core.List.Memᴰ.not-nil m);
        node_site = λ n s l m. absurd (mathlib.Core.List.Memᴰ.not-nil m);
        edge_nodes = λ c d m. absurd (mathlib.Core.List.Memᴰ.not-nil m);
        edge_count = omega arith;
      }
  passes_ok (r ∷ rs) p = let w = (passes-step levels r rs).0 p in one_more rs (passes_ok rs w.0) r levels w.1

  pub passes_levels : (rs : List Record) → passes levels rs ≡ true → LevelsPass levels rs
  passes_levels [] p = tt
  passes_levels (r ∷ rs) p =
      let w = (passes-step levels r rs).0 p in (passes_levels rs w.0, ((record_sound levels rs r).0 w.1).level)

  pub ok_passes : (rs : List Record) → RecordsOk rs → LevelsPass levels rs → passes levels rs ≡ true
  unfolding passes
  ok_passes [] ok h = refl
  ok_passes (r ∷ rs) ok h =
      (passes-step levels r rs).1 (ok_passes rs (without_latest rs r ok) h.0, no_fault rs r levels ok h.1)

-- Check 6: each level is below the threads of its site
one_test : (b : Bool) → (first_fault ((b, 6) ∷ []) ≡ 0) ↔ (b ≡ true)
one_test true = ((λ e. refl), (λ e. refl))
one_test false = ((λ e. absurd (omega arith)), (λ e. absurd (never_both e refl)))

pub six_below : (rs : List Record) → RecordsOk rs → LevelsPass six rs ↔ LevelsBelow rs
unfolding level_below
six_below [] ok = ((λ h n s l t m i. absurd (mathlib.Core.List.Memᴰ.not-nil m)), (λ h. tt))
six_below (r ∷ rs) ok = let rest = six_below rs (without_latest rs r ok) in (from rest.0, into rest.1)
  where
    from : (LevelsPass six rs → LevelsBelow rs) → LevelsPass six (r ∷ rs) → LevelsBelow (r ∷ rs)
    from rest h n s l t m i =
        let site-yet : Memᴰ (site s t) rs = behind rs ok.rising (omega arith) m i in
        ⊎_elim
        (λ (e : node n s l ≡ r).
        let below = subst (λ (q : Record). level_below rs q ≡ true) (sym e) ((one_test (level_below rs r)).0 h.1) in
        omega (arith, ltb-true l (threads rs s) below, listed-threads rs s t ok.rising.0 site-yet))
        (λ j. rest h.0 n s l t j site-yet)
        (mathlib.Core.List.Memᴰ.cases_cons m)

    its_level : (q : Record) → r ≡ q → LevelsBelow (r ∷ rs) → level_below rs q ≡ true
    its_level (site s t) e h = refl
    its_level (node n s l) e h =
        let here : Memᴰ (node n s l) (r ∷ rs) = mathlib.Core.List.Memᴰ.head (sym e) in
        let v = its_threads rs r ok n s l here in
        lt-ltb l (threads rs s) (omega (arith, v.2, h n s l v.0 here (mathlib.Core.List.Memᴰ.tail v.1)))
    its_level (edge c d) e h = refl

    into : (LevelsBelow rs → LevelsPass six rs) → LevelsBelow (r ∷ rs) → LevelsPass six (r ∷ rs)
    into rest h = (
      rest (λ n s l t m i. h n s l t (mathlib.Core.List.Memᴰ.tail m) (mathlib.Core.List.Memᴰ.tail i)),
      (one_test (level_below rs r)).1 (its_level r refl h),
    )

pub levels_below : (rs : List Record) → passes six rs ≡ true → LevelsBelow rs
levels_below rs p = (six_below rs (passes_ok six rs p)).0 (passes_levels six rs p)
