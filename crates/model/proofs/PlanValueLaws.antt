-- The value of a plan holds its records and no others: they rise, and so each stored record is the last of its enumeration. Assumes nothing.
use Prim.Native.Nat.{ℕ, suc, ◌+◌, ◌<◌, ◌≤◌, min}
use native.Mathlib.Omega.{arith}
use mathlib.Core.Path.{◌≡◌, refl, sym, ap, ap₂, ◌∙◌}
use mathlib.Core.Logic.{⊎_elim}
use mathlib.Core.Bool.{Bool, true, false, not, cond}
use mathlib.Core.List.{List, [], ◌∷◌, Memᴰ}
use mathlib.Core.Option.{Option, none, some}
use lib.Dec.{eqb}
use lib.ListN.{length, get_or, set, length-set, length-replicate}
use lib.Seq.{get_or-set_same, get_or-set_other}
use borrow.Author.Tests.{eqb-true, eqb-false, ne_eqb}
use Rattle.ids.specs.Limits.{sites, most_threads, nodes, most_edges}
use Rattle.model.specs.Plan.{Record, site, node, edge, edges_of, threads, Place, place, present, edges}
use Rattle.model.specs.Records.{kind, RecordsOk}
use Rattle.model.specs.PlanValue.{Sized, nowhere, somewhere, pair, empty_plan, value, each, site_at, node_at, edge_at, records_of, held}
use Rattle.model.specs.declared.Edge.{Edge}
use Rattle.model.specs.declared.Plan.{Plan}
use Rattle.model.proofs.KindLaws.{never_falls, within_kind, in_edges}
use Rattle.model.proofs.RecordLaws.{threads-listed, place-listed, without_latest}
use Rattle.model.proofs.HeldLaws.{each_skip, each_same, each_more, its_sites, its_nodes, records_each, threads_of, place_of, present-held}

pub value_sized : (rs : List Record) → Sized (value rs)
unfolding value empty_plan
value_sized [] =
    record {
      threads = length-replicate {A = ℕ} sites 0;
      places = length-replicate {A = ℕ} nodes nowhere;
      levels = length-replicate {A = ℕ} nodes 0;
      pairs = length-replicate {A = Edge} most_edges (pair 0 0);
    }
value_sized (site s t ∷ rs) =
    let w = value_sized rs in
    record {
      threads = length-set (value rs).threads s t ∙ w.threads;
      places = w.places;
      levels = w.levels;
      pairs = w.pairs;
    }
value_sized (node n s l ∷ rs) =
    let w = value_sized rs in
    record {
      threads = w.threads;
      places = length-set (value rs).places n s ∙ w.places;
      levels = length-set (value rs).levels n l ∙ w.levels;
      pairs = w.pairs;
    }
value_sized (edge c d ∷ rs) =
    let w = value_sized rs in
    record {
      threads = w.threads;
      places = w.places;
      levels = w.levels;
      pairs = length-set (value rs).pairs (value rs).edges (pair c d) ∙ w.pairs;
    }

pub edges-value : (rs : List Record) → (value rs).edges ≡ edges rs
unfolding value empty_plan edges
edges-value [] = refl
edges-value (site s t ∷ rs) = edges-value rs
edges-value (node n s l ∷ rs) = edges-value rs
edges-value (edge c d ∷ rs) = omega (arith, edges-value rs)

-- The records of a stored plan

no_edges : (rs : List Record) → ((c d : ℕ) → Memᴰ (edge c d) rs → ⊥) → edges rs ≡ 0
unfolding edges
no_edges rs h = go (edges_of rs) (λ e m. h e.0 e.1 (in_edges rs m))
  where
    go : (es : List (ℕ × ℕ)) → ((e : ℕ × ℕ) → Memᴰ e es → ⊥) → length es ≡ 0
    go [] never = refl
    go (e ∷ es) never = absurd (never e (Memᴰ.head refl))

-- a value without edges, or without nodes as well
only_nodes : (p : Plan) → p.edges ≡ 0 → records_of p ≡ its_nodes p
only_nodes p e = records_each p ∙ ap (λ (k : ℕ). each (edge_at p.pairs) (min k most_edges) (its_nodes p)) e

only_sites : (p : Plan) → p.edges ≡ 0 → ((n : ℕ) → somewhere (get_or p.places n nowhere) ≡ false) → records_of p ≡ its_sites p
only_sites p e h = only_nodes p e ∙ each_skip (λ qs. qs) (node_at p.places p.levels) nodes (its_sites p) (λ i qs l. rw (h i))

-- a site's number is a place
place_of_site : (s : ℕ) → s < sites → somewhere s ≡ true
place_of_site s h = ap not (ne_eqb s nowhere (λ e. omega arith))

-- one record more, later than those before it, which the value holds
module _ (rs : List Record) (r : Record) (ok : RecordsOk (r ∷ rs)) (same : records_of (value rs) ≡ rs) where
  abbrev old : Plan
  old = value rs

  edges_yet : kind r < 3 → old.edges ≡ 0
  edges_yet h = edges-value rs ∙ no_edges rs (λ c d m. omega (arith, never_falls (ok.rising.1 (edge c d) m)))

  nodes_yet : (n : ℕ) → ((s l : ℕ) → Memᴰ (node n s l) rs → ⊥) → somewhere (get_or old.places n nowhere) ≡ false
  nodes_yet n h =
      sym (present-held old n)
      ∙ ap present (sym (place_of old (value_sized rs) n) ∙ ap (λ (qs : List Record). place qs n) same)
      ∙ go (place rs n) refl
    where
      go : (o : Option Place) → place rs n ≡ o → present o ≡ false
      go none e = refl
      go (some q) e = absurd (h q.at q.level (place-listed rs n q e))

  threads_yet : (s : ℕ) → ((t : ℕ) → Memᴰ (site s t) rs → ⊥) → get_or old.threads s 0 ≡ 0
  threads_yet s h =
      sym (threads_of old (value_sized rs) s)
      ∙ ap (λ (qs : List Record). threads qs s) same
      ∙ go (eqb (threads rs s) 0) refl
    where
      go : (b : Bool) → eqb (threads rs s) 0 ≡ b → threads rs s ≡ 0
      go true e = eqb-true (threads rs s) 0 e
      go false e = absurd (h (threads rs s) (threads-listed rs s (eqb-false (threads rs s) 0 e)))

one_more : (rs : List Record) (r : Record) → RecordsOk (r ∷ rs) → records_of (value rs) ≡ rs → records_of (value (r ∷ rs)) ≡ r ∷ records_of (value rs)
unfolding value edges
one_more rs (site s t) ok same =
    only_sites (value (site s t ∷ rs)) no_edge no_node
    ∙ each_more (site_at ts) (site_at (set ts s t)) (site s t) sites s [] range.0
    (λ i ne. ap (λ (x : ℕ). cond (eqb x 0) none (some (site i x))) (get_or-set_other ts s i t 0 ne))
    (rw (get_or-set_same ts s t 0 (omega (arith, range.0, (value_sized rs).threads)), ne_eqb t 0 (λ z. omega (arith, range.1))))
    (λ i l.
    rw (threads_yet rs (site s t) ok same i
    (λ u m. ⊎_elim (λ h. omega arith) (λ h. omega (arith, h.1)) (within_kind (ok.rising.1 (site i u) m) refl))))
    ∙ ap (◌∷◌ (site s t)) (sym (only_sites (value rs) no_edge no_node))
  where
    ts : List ℕ
    ts = (value rs).threads

    range : (s < sites) × (0 < t) × (t ≤ most_threads)
    range = ok.site_range s t (Memᴰ.head refl)

    no_edge : (value rs).edges ≡ 0
    no_edge = edges_yet rs (site s t) ok same (omega arith)

    no_node : (n : ℕ) → somewhere (get_or (value rs).places n nowhere) ≡ false
    no_node n = nodes_yet rs (site s t) ok same n (λ r l m. omega (arith, never_falls (ok.rising.1 (node n r l) m)))
one_more rs (node n s l) ok same =
    only_nodes (value (node n s l ∷ rs)) no_edge
    ∙ each_more (node_at ps ls) (node_at (set ps n s) (set ls n l)) (node n s l) nodes n (its_sites (value rs)) low
    (λ i ne.
    ap₂ (λ (x y : ℕ). cond (somewhere x) (some (node i x y)) none) (get_or-set_other ps n i s nowhere ne) (get_or-set_other ls n i l 0 ne))
    (rw (
      get_or-set_same ps n s nowhere (omega (arith, low, (value_sized rs).places)),
      get_or-set_same ls n l 0 (omega (arith, low, (value_sized rs).levels)),
      place_of_site s (ok.site_range s its.0 its.1).0,
    ))
    (λ i h.
    rw (nodes_yet rs (node n s l) ok same i
    (λ r k m. ⊎_elim (λ g. omega arith) (λ g. omega (arith, g.1)) (within_kind (ok.rising.1 (node i r k) m) refl))))
    ∙ ap (◌∷◌ (node n s l)) (sym (only_nodes (value rs) no_edge))
  where
    ps : List ℕ
    ps = (value rs).places

    ls : List ℕ
    ls = (value rs).levels

    low : n < nodes
    low = ok.node_range n s l (Memᴰ.head refl)

    its : (t : ℕ) × Memᴰ (site s t) (node n s l ∷ rs)
    its = ok.node_site n s l (Memᴰ.head refl)

    no_edge : (value rs).edges ≡ 0
    no_edge = edges_yet rs (node n s l) ok same (omega arith)
one_more rs (edge c d) ok same =
    records_each (value (edge c d ∷ rs))
    ∙ ap (λ (k : ℕ). each (edge_at (set ps e (pair c d))) k (its_nodes (value rs))) next
    ∙ ap₂ ◌∷◌
    (ap (λ (x : Edge). edge x.caller.0 x.callee.0) (get_or-set_same ps e (pair c d) (pair 0 0) (omega (arith, room, (value_sized rs).pairs))))
    (each_same (edge_at ps) (edge_at (set ps e (pair c d))) e (its_nodes (value rs))
    (λ i l. ap (λ (x : Edge). some (edge x.caller.0 x.callee.0)) (get_or-set_other ps e i (pair c d) (pair 0 0) (λ q. omega arith))))
    ∙ ap (◌∷◌ (edge c d))
    (ap (λ (k : ℕ). each (edge_at ps) k (its_nodes (value rs))) (sym this) ∙ sym (records_each (value rs)))
  where
    ps : List Edge
    ps = (value rs).pairs

    e : ℕ
    e = (value rs).edges

    room : e < most_edges
    room = omega (arith, edges-value rs, ok.edge_count)

    this : min e most_edges ≡ e
    this = omega (arith, room)

    next : min (e + 1) most_edges ≡ suc e
    next = omega (arith, room)

pub records_value : (rs : List Record) → RecordsOk rs → records_of (value rs) ≡ rs
unfolding value empty_plan records_of
records_value [] ok = refl
records_value (r ∷ rs) ok =
    let same = records_value rs (without_latest rs r ok) in
    one_more rs r ok same ∙ ap (◌∷◌ r) same

-- The lookups in a stored plan
module _ (rs : List Record) (ok : RecordsOk rs) where
  pub threads-value : (s : ℕ) → get_or (value rs).threads s 0 ≡ threads rs s
  threads-value s = sym (threads_of (value rs) (value_sized rs) s) ∙ ap (λ (qs : List Record). threads qs s) (records_value rs ok)

  pub place-value : (n : ℕ) → held (value rs) n ≡ place rs n
  place-value n = sym (place_of (value rs) (value_sized rs) n) ∙ ap (λ (qs : List Record). place qs n) (records_value rs ok)

  -- a node has a record where it is somewhere
  pub present-value : (n : ℕ) → present (place rs n) ≡ somewhere (get_or (value rs).places n nowhere)
  present-value n = ap present (sym (place-value n)) ∙ present-held (value rs) n
