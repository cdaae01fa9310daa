-- The records of a plan's value pass exactly where each entry of its arrays fits: an enumeration passes as far as each of its records passes behind
-- those before it, and what a record is checked against stands in the arrays. Assumes nothing.
use Prim.Native.Nat.{ℕ, zero, suc, ◌≤◌, ◌<◌, min}
use native.Mathlib.Omega.{arith}
use mathlib.Core.Path.{◌≡◌, refl, sym, ap, ◌∙◌}
use mathlib.Core.Bool.{Bool, true, false, not, ◌&&◌, ◌||◌, cond}
use mathlib.Core.List.{List, [], ◌∷◌}
use mathlib.Core.Option.{Option, none, some}
use lib.ListN.{get_or}
use lib.Dec.{ltb, leb, eqb}
use borrow.Author.Tests.{eqb-true, eqb-false, ne_eqb, lt-ltb, le-ltb, lt-leb, le-leb}
use Rattle.ids.specs.Limits.{sites, most_threads, nodes, most_edges}
use Rattle.lists.specs.Count.{every}
use Rattle.model.specs.Plan.{Record, site, node, edge, push, threads, place, present, edges, follows, in_range, known, level_below, room_for}
use Rattle.model.specs.Plan.{six, record_fault, passes}
use Rattle.model.specs.PlanValue.{Sized, pair_at, nowhere, somewhere, each, site_at, node_at, edge_at, records_of}
use Rattle.model.specs.declared.Plan.{Plan}
use Rattle.model.proofs.HeldLaws.{each_skip, its_sites, its_nodes, records_each, threads_of, place_of, present-held}
use Rattle.record.specs.Step.{listed_node}
use Rattle.audit.specs.Audits.{records_pass}
use Rattle.audit.specs.Fits.{site_fits, node_fits, pair_fits, edge_fits, sites_fit, nodes_fit, edges_fit}

-- more edges than have places fail
pub too_many_fail : (p : Plan) → most_edges < p.edges → false ≡ records_pass p
unfolding records_pass
too_many_fail p many = rw (lt-leb p.edges most_edges many)

-- Enumerations

-- what each record keeps, an enumeration keeps
module _ (P : List Record → Type 0) where
  each_keeps : (f : ℕ → Option Record) (k : ℕ) (rs : List Record)
      → P rs → ((i : ℕ) (qs : List Record) → i < k → P qs → P (push (f i) qs)) → P (each f k rs)
  each_keeps f zero rs start step = start
  each_keeps f (suc k) rs start step = step k (each f k rs) (omega arith) (each_keeps f k rs start (λ i qs l. step i qs (omega arith)))

  sites-keep : (threads : List ℕ) (k : ℕ) → P [] → ((s t : ℕ) (qs : List Record) → s < k → P qs → P (site s t ∷ qs)) → P (each (site_at threads) k [])
  sites-keep threads k start step = each_keeps (site_at threads) k [] start (λ s qs l so. go s (get_or threads s 0) qs l so (eqb (get_or threads s 0) 0))
    where
      go : (s t : ℕ) (qs : List Record) → s < k → P qs → (b : Bool) → P (push (cond b none (some (site s t))) qs)
      go s t qs l so true = so
      go s t qs l so false = step s t qs l so

  nodes-keep : (places levels : List ℕ) (k : ℕ) (rs : List Record)
      → P rs → ((n s l : ℕ) (qs : List Record) → n < k → P qs → P (node n s l ∷ qs)) → P (each (node_at places levels) k rs)
  nodes-keep places levels k rs start step =
      each_keeps (node_at places levels) k rs start
      (λ n qs l so. go n (get_or places n nowhere) (get_or levels n 0) qs l so (somewhere (get_or places n nowhere)))
    where
      go : (n s l : ℕ) (qs : List Record) → n < k → P qs → (b : Bool) → P (push (cond b (some (node n s l)) none) qs)
      go n s l qs m so true = step n s l qs m so
      go n s l qs m so false = so

-- behind records that fail one more fails
fails_on : (o : Option Record) (qs : List Record) → passes six qs ≡ false → passes six (push o qs) ≡ false
unfolding passes
fails_on none qs e = e
fails_on (some r) qs e = rw e

and_assoc : (a b c : Bool) → ((a && b) && c) ≡ (a && (b && c))
and_assoc true b c = refl
and_assoc false b c = refl

and-true : (a : Bool) → a ≡ (a && true)
and-true true = refl
and-true false = refl

module _ (f : ℕ → Option Record) (fits : ℕ → Bool) (rs : List Record) where
  each-passes : (k : ℕ) → ((i : ℕ) → i < k → passes six (each f i rs) ≡ true → passes six (push (f i) (each f i rs)) ≡ fits i)
      → passes six (each f k rs) ≡ (passes six rs && every k fits)
  each-passes zero step = and-true (passes six rs)
  each-passes (suc k) step =
      last (passes six (each f k rs)) refl
      ∙ ap (λ (b : Bool). b && fits k) (each-passes k (λ i l. step i (omega arith)))
      ∙ and_assoc (passes six rs) (every k fits) (fits k)
    where
      last : (b : Bool) → passes six (each f k rs) ≡ b → passes six (push (f k) (each f k rs)) ≡ (b && fits k)
      last true e = step k (omega arith) e
      last false e = fails_on (f k) (each f k rs) e

-- One record, behind records that pass

-- a test with a number gives none where it holds
no_number : (b : Bool) (n : ℕ) → eqb (cond b 0 (suc n)) 0 ≡ b
no_number true n = refl
no_number false n = ne_eqb (suc n) 0 (λ e. omega arith)

module _ (qs : List Record) (pass : passes six qs ≡ true) where
  site_test : (s t : ℕ) → s < sites → follows qs (site s t) ≡ true → passes six (push (cond (eqb t 0) none (some (site s t))) qs) ≡ leb t most_threads
  unfolding passes record_fault in_range known level_below room_for
  site_test s t inside follow = go (eqb t 0) refl
    where
      go : (b : Bool) → eqb t 0 ≡ b → passes six (push (cond b none (some (site s t))) qs) ≡ leb t most_threads
      go true e = let z = eqb-true t 0 e in rw (pass, z)
      go false e =
          let some-threads : 0 < t = omega (arith, eqb-false t 0 e) in
          rw (pass, follow, lt-ltb s sites inside, lt-ltb 0 t some-threads) (no_number (leb t most_threads) 3)

  node_test : (n s l t : ℕ) → n < nodes → follows qs (node n s l) ≡ true → threads qs s ≡ t
      → passes six (push (cond (somewhere s) (some (node n s l)) none) qs) ≡ (not (somewhere s) || ltb l t)
  unfolding passes record_fault in_range known level_below room_for
  node_test n s l t inside follow at = go (somewhere s)
    where
      behind : (b : Bool) → eqb t 0 ≡ b → eqb (cond (not b) (cond (ltb l t) 0 6) 5) 0 ≡ ltb l t
      behind true e = sym (le-ltb l t (omega (arith, eqb-true t 0 e)))
      behind false e = no_number (ltb l t) 5

      go : (b : Bool) → passes six (push (cond b (some (node n s l)) none) qs) ≡ (not b || ltb l t)
      go true = rw (pass, follow, lt-ltb n nodes inside, at) (behind (eqb t 0) refl)
      go false = pass

  edge_test : (c d : ℕ) (a b rising : Bool) → present (place qs c) ≡ a → present (place qs d) ≡ b → follows qs (edge c d) ≡ rising
      → edges qs < most_edges → passes six (edge c d ∷ qs) ≡ ((a && b) && rising)
  unfolding passes record_fault in_range known level_below room_for
  edge_test c d a b rising from to follow room = rw (pass, from, to, follow, lt-ltb (edges qs) most_edges room) (go rising (a && b))
    where
      go : (f k : Bool) → eqb (cond f (cond k 0 5) 3) 0 ≡ (k && f)
      go true true = refl
      go true false = refl
      go false true = refl
      go false false = refl

-- The records so far, behind which the next one is checked

module _ (p : Plan) where
  abbrev sites_below : ℕ → List Record
  sites_below s = each (site_at p.threads) s []

  abbrev nodes_below : ℕ → List Record
  nodes_below n = each (node_at p.places p.levels) n (its_sites p)

  abbrev edges_below : ℕ → List Record
  edges_below i = each (edge_at p.pairs) i (its_nodes p)

  -- the next one follows them

  site_follows : (s t : ℕ) → follows (sites_below s) (site s t) ≡ true
  unfolding follows
  site_follows s t = sites-keep (λ qs. follows qs (site s t) ≡ true) p.threads s refl (λ i u qs l so. lt-ltb i s l)

  node_follows : (n s l : ℕ) → follows (nodes_below n) (node n s l) ≡ true
  unfolding follows
  node_follows n s l =
      let So : List Record → Type 0 = λ qs. follows qs (node n s l) ≡ true in
      nodes-keep So p.places p.levels n (its_sites p) (sites-keep So p.threads sites refl (λ i u qs m so. refl))
      (λ i r k qs m so. lt-ltb i n m)

  first-follows : (c d : ℕ) → follows (its_nodes p) (edge c d) ≡ true
  unfolding follows
  first-follows c d =
      let So : List Record → Type 0 = λ qs. follows qs (edge c d) ≡ true in
      nodes-keep So p.places p.levels nodes (its_sites p) (sites-keep So p.threads sites refl (λ i u qs m so. refl)) (λ i r k qs m so. refl)

  edge_follows : (i : ℕ) → follows (edges_below i) (edge (pair_at p.pairs i).caller.0 (pair_at p.pairs i).callee.0) ≡ pair_fits p.pairs i
  unfolding follows
  edge_follows zero = first-follows (pair_at p.pairs 0).caller.0 (pair_at p.pairs 0).callee.0
  edge_follows (suc i) = refl

  -- there are as many edges as were counted
  no_edges : edges (its_nodes p) ≡ 0
  unfolding edges
  no_edges =
      let So : List Record → Type 0 = λ qs. edges qs ≡ 0 in
      nodes-keep So p.places p.levels nodes (its_sites p) (sites-keep So p.threads sites refl (λ s t qs m so. so)) (λ n s l qs m so. so)

  edges_so_far : (i : ℕ) → edges (edges_below i) ≡ i
  unfolding edges
  edges_so_far zero = no_edges
  edges_so_far (suc i) = ap suc (edges_so_far i)

  -- so the sites' pass where their entries fit
  sites_pass : passes six (its_sites p) ≡ sites_fit p.threads
  unfolding passes sites_fit site_fits
  sites_pass =
      each-passes (site_at p.threads) (site_fits p.threads) [] sites
      (λ s l pass. site_test (sites_below s) pass s (get_or p.threads s 0) l (site_follows s (get_or p.threads s 0)))

  -- what they say stands in the arrays
  module _ (sized : Sized p) where
    threads_there : (n s : ℕ) → threads (nodes_below n) s ≡ get_or p.threads s 0
    unfolding threads
    threads_there n s = passed n ∙ sym (to-edges ∙ passed nodes) ∙ threads_of p sized s
      where
        passed : (k : ℕ) → threads (nodes_below k) s ≡ threads (its_sites p) s
        passed k =
            nodes-keep (λ qs. threads qs s ≡ threads (its_sites p) s) p.places p.levels k (its_sites p) refl (λ n s l qs m so. so)

        to-edges : threads (records_of p) s ≡ threads (its_nodes p) s
        to-edges =
            ap (λ qs. threads qs s) (records_each p)
            ∙ each_skip (λ qs. threads qs s) (edge_at p.pairs) (min p.edges most_edges) (its_nodes p) (λ i qs l. refl)

    node_there : (i n : ℕ) → present (place (edges_below i) n) ≡ listed_node p.places n
    unfolding place
    node_there i n =
        ap present (passed i ∙ sym (ap (λ qs. place qs n) (records_each p) ∙ passed (min p.edges most_edges)) ∙ place_of p sized n) ∙ present-held p n
      where
        passed : (k : ℕ) → place (edges_below k) n ≡ place (its_nodes p) n
        passed k = each_skip (λ qs. place qs n) (edge_at p.pairs) k (its_nodes p) (λ i qs l. refl)

    -- so the nodes' and the edges' pass where their entries fit

    nodes_pass : passes six (its_nodes p) ≡ (passes six (its_sites p) && nodes_fit p.threads p.places p.levels)
    unfolding nodes_fit node_fits
    nodes_pass =
        each-passes (node_at p.places p.levels) (node_fits p.threads p.places p.levels) (its_sites p) nodes
        (λ n l pass.
        let s = get_or p.places n nowhere in
        let k = get_or p.levels n 0 in
        node_test (nodes_below n) pass n s k (get_or p.threads s 0) l (node_follows n s k) (threads_there n s))

    edges_pass : (count : ℕ) → count ≤ most_edges
        → passes six (edges_below count) ≡ (passes six (its_nodes p) && edges_fit p.places p.pairs count)
    unfolding edges_fit edge_fits
    edges_pass count few =
        each-passes (edge_at p.pairs) (edge_fits p.places p.pairs) (its_nodes p) count
        (λ i l pass.
        let c = (pair_at p.pairs i).caller.0 in
        let d = (pair_at p.pairs i).callee.0 in
        edge_test (edges_below i) pass c d _ _ _ (node_there i c) (node_there i d) (edge_follows i) (omega (arith, edges_so_far i)))

    -- in the order of the code
    module _ (few : p.edges ≤ most_edges) where
      pub records-pass-is : records_pass p
          ≡ ((sites_fit p.threads && nodes_fit p.threads p.places p.levels) && edges_fit p.places p.pairs p.edges)
      unfolding records_pass
      records-pass-is =
          let count : min p.edges most_edges ≡ p.edges = omega arith in
          rw (le-leb p.edges most_edges few, records_each p, count, edges_pass p.edges few, nodes_pass, sites_pass)
