-- What a plan's value says, whoever made it: its records are enumerations of its arrays, and a lookup in them finds what stands in the array.
-- Assumes nothing.
use Prim.Native.Nat.{ℕ, zero, suc, ◌<◌, ◌≤◌, min}
use native.Mathlib.Nat.{not-suc-le-zero, le_of_suc-le-suc, eq-or-lt_of_le}
use native.Mathlib.Omega.{arith}
use mathlib.Core.Path.{◌≡◌, refl, sym, ap, ap₂, subst, ◌∙◌}
use mathlib.Core.Logic.{⊎_elim}
use mathlib.Core.Bool.{Bool, true, false, ◌&&◌, ◌||◌, cond}
use mathlib.Core.List.{List, [], ◌∷◌}
use mathlib.Core.Option.{Option, none, some}
use lib.Dec.{eqb}
use lib.ListN.{length, get_or, get_or-eq_default}
use borrow.Author.Tests.{eqb-true, eq-eqb, ne_eqb}
use Rattle.lists.proofs.CountLaws.{lt_or_ge}
use Rattle.ids.specs.Limits.{sites, nodes, most_edges}
use Rattle.model.specs.Plan.{Record, site, node, edge, Place, push, threads, place, present, has_edge}
use Rattle.model.specs.PlanValue.{Sized, nowhere, somewhere, each, site_at, node_at, pair_at, edge_at, edge_records, records_of, held}
use Rattle.model.specs.declared.Plan.{Plan}

-- Enumerations: a record or none for each number below k, the latest first

-- records that all leave a lookup alone leave it as it was
pub each_skip : {X : Type 0} (look : List Record → X) (f : ℕ → Option Record) (k : ℕ) (rs : List Record)
    → ((i : ℕ) (qs : List Record) → i < k → look (push (f i) qs) ≡ look qs) → look (each f k rs) ≡ look rs
each_skip look f zero rs h = refl
each_skip look f (suc k) rs h = h k (each f k rs) (omega arith) ∙ each_skip look f k rs (λ i qs l. h i qs (omega arith))

-- where all later records leave a lookup alone, it finds the record of n
pub each_find : {X : Type 0} (look : List Record → X) (f : ℕ → Option Record) (k n : ℕ) (rs : List Record) → n < k
    → ((i : ℕ) (qs : List Record) → n < i → look (push (f i) qs) ≡ look qs) → look (each f k rs) ≡ look (push (f n) (each f n rs))
each_find look f zero n rs l h = absurd (not-suc-le-zero l)
each_find look f (suc k) n rs l h =
    ⊎_elim
    (λ (e : n ≡ k). subst (λ (j : ℕ). look (push (f k) (each f k rs)) ≡ look (push (f j) (each f j rs))) (sym e) refl)
    (λ (m : n < k). h k (each f k rs) m ∙ each_find look f k n rs m h)
    (eq-or-lt_of_le (le_of_suc-le-suc l))

-- what is the same below k is enumerated the same
pub each_same : (f g : ℕ → Option Record) (k : ℕ) (rs : List Record) → ((i : ℕ) → i < k → g i ≡ f i) → each g k rs ≡ each f k rs
each_same f g zero rs h = refl
each_same f g (suc k) rs h = ap₂ push (h k (omega arith)) (each_same f g k rs (λ i l. h i (omega arith)))

-- a record behind which there is none comes last
pub each_more : (f g : ℕ → Option Record) (r : Record) (k n : ℕ) (rs : List Record) → n < k
    → ((i : ℕ) → (i ≡ n → ⊥) → g i ≡ f i) → g n ≡ some r → ((i : ℕ) → n ≤ i → f i ≡ none) → each g k rs ≡ r ∷ each f k rs
each_more f g r zero n rs l other new rest = absurd (not-suc-le-zero l)
each_more f g r (suc k) n rs l other new rest =
    ⊎_elim
    (λ (e : n ≡ k).
    ap₂ push (subst (λ (j : ℕ). g j ≡ some r) e new) (each_same f g k rs (λ i m. other i (omega arith)))
    ∙ ap (λ (o : Option Record). r ∷ push o (each f k rs)) (sym (rest k (omega arith))))
    (λ (m : n < k).
    ap₂ push (other k (λ e. omega arith) ∙ rest k (omega arith)) (each_more f g r k n rs m other new rest)
    ∙ ap (λ (o : Option Record). r ∷ push o (each f k rs)) (sym (rest k (omega arith))))
    (eq-or-lt_of_le (le_of_suc-le-suc l))

-- What a value's records say, whoever made it
module _ {X : Type 0} (look : List Record → X) (qs : List Record) (r : Record) (alone : look (r ∷ qs) ≡ look qs) where
  skip_some : (b : Bool) → look (push (cond b (some r) none) qs) ≡ look qs
  skip_some true = alone
  skip_some false = refl

  skip_none : (b : Bool) → look (push (cond b none (some r)) qs) ≡ look qs
  skip_none true = refl
  skip_none false = alone

module _ (p : Plan) where
  abbrev pub its_sites : List Record
  its_sites = each (site_at p.threads) sites []

  abbrev pub its_nodes : List Record
  its_nodes = each (node_at p.places p.levels) nodes its_sites

  pub records_each : records_of p ≡ each (edge_at p.pairs) (min p.edges most_edges) its_nodes
  unfolding records_of
  records_each = refl

  -- a lookup that no edge, or no node, concerns
  module _ {X : Type 0} (look : List Record → X) where
    past-edges : ((c d : ℕ) (qs : List Record) → look (edge c d ∷ qs) ≡ look qs) → look (records_of p) ≡ look its_nodes
    past-edges h =
        ap look records_each
        ∙ each_skip look (edge_at p.pairs) (min p.edges most_edges) its_nodes
        (λ i qs l. h (pair_at p.pairs i).caller.0 (pair_at p.pairs i).callee.0 qs)

    past-nodes : ((n s l : ℕ) (qs : List Record) → look (node n s l ∷ qs) ≡ look qs) → look its_nodes ≡ look its_sites
    past-nodes h =
        each_skip look (node_at p.places p.levels) nodes its_sites
        (λ i qs l.
        let s = get_or p.places i nowhere in
        let k = get_or p.levels i 0 in
        skip_some look qs (node i s k) (h i s k qs) (somewhere s))

    past-sites : ((s t : ℕ) (qs : List Record) → look (site s t ∷ qs) ≡ look qs) → look its_sites ≡ look []
    past-sites h =
        each_skip look (site_at p.threads) sites []
        (λ i qs l. skip_none look qs (site i (get_or p.threads i 0)) (h i (get_or p.threads i 0) qs) (eqb (get_or p.threads i 0) 0))

  -- the call edges are those of the edge records
  pub calls_of : (c d : ℕ) → has_edge (records_of p) c d ≡ has_edge (edge_records p.pairs (min p.edges most_edges) []) c d
  unfolding has_edge records_of
  calls_of c d = go (min p.edges most_edges)
    where
      go : (k : ℕ) → has_edge (edge_records p.pairs k its_nodes) c d ≡ has_edge (edge_records p.pairs k []) c d
      go zero = past-nodes (λ qs. has_edge qs c d) (λ n s l qs. refl) ∙ past-sites (λ qs. has_edge qs c d) (λ s t qs. refl)
      go (suc k) = ap (λ (t : Bool). (eqb (pair_at p.pairs k).caller.0 c && eqb (pair_at p.pairs k).callee.0 d) || t) (go k)

  module _ (sized : Sized p) where
    -- the threads of a site
    pub threads_of : (s : ℕ) → threads (records_of p) s ≡ get_or p.threads s 0
    unfolding threads
    threads_of s =
        past-edges (λ qs. threads qs s) (λ c d qs. refl)
        ∙ past-nodes (λ qs. threads qs s) (λ n r l qs. refl)
        ∙ ⊎_elim
        (λ (h : s < sites).
        each_find (λ qs. threads qs s) (site_at p.threads) sites s [] h (λ i qs l. other i qs (λ e. omega arith))
        ∙ here (eqb (get_or p.threads s 0) 0) refl)
        (λ (h : sites ≤ s).
        each_skip (λ qs. threads qs s) (site_at p.threads) sites [] (λ i qs l. other i qs (λ e. omega arith))
        ∙ sym (get_or-eq_default p.threads 0 {n = s} (omega (arith, sized.threads))))
        (lt_or_ge s sites)
      where
        other : (i : ℕ) (qs : List Record) → (i ≡ s → ⊥) → threads (push (site_at p.threads i) qs) s ≡ threads qs s
        other i qs ne =
            skip_none (λ qs. threads qs s) qs (site i (get_or p.threads i 0)) (rw (ne_eqb i s ne)) (eqb (get_or p.threads i 0) 0)

        here : (b : Bool) → eqb (get_or p.threads s 0) 0 ≡ b
            → threads (push (cond b none (some (site s (get_or p.threads s 0)))) (each (site_at p.threads) s [])) s ≡ get_or p.threads s 0
        here true e =
            each_skip (λ qs. threads qs s) (site_at p.threads) s [] (λ i qs l. other i qs (λ e. omega arith))
            ∙ sym (eqb-true (get_or p.threads s 0) 0 e)
        here false e = rw (eq-eqb s s refl)

    -- a number that is no node is nowhere
    pub held_out : (n : ℕ) → nodes ≤ n → held p n ≡ none
    unfolding held
    held_out n h =
        let out : get_or p.places n nowhere ≡ nowhere = get_or-eq_default p.places nowhere {n = n} (omega (arith, sized.places)) in
        rw out

    -- a node's site and level
    pub place_of : (n : ℕ) → place (records_of p) n ≡ held p n
    unfolding place held
    place_of n =
        past-edges (λ qs. place qs n) (λ c d qs. refl)
        ∙ ⊎_elim
        (λ (h : n < nodes).
        each_find (λ qs. place qs n) (node_at p.places p.levels) nodes n its_sites h (λ i qs l. other i qs (λ e. omega arith))
        ∙ here (somewhere (get_or p.places n nowhere)) refl)
        (λ (h : nodes ≤ n).
        each_skip (λ qs. place qs n) (node_at p.places p.levels) nodes its_sites (λ i qs l. other i qs (λ e. omega arith))
        ∙ none_there
        ∙ sym (held_out n h))
        (lt_or_ge n nodes)
      where
        none_there : place its_sites n ≡ none
        none_there = past-sites (λ qs. place qs n) (λ s t qs. refl)

        other : (i : ℕ) (qs : List Record) → (i ≡ n → ⊥) → place (push (node_at p.places p.levels i) qs) n ≡ place qs n
        other i qs ne =
            skip_some (λ qs. place qs n) qs (node i (get_or p.places i nowhere) (get_or p.levels i 0)) (rw (ne_eqb i n ne))
            (somewhere (get_or p.places i nowhere))

        found : Place
        found = record { at = get_or p.places n nowhere; level = get_or p.levels n 0 }

        here : (b : Bool) → somewhere (get_or p.places n nowhere) ≡ b
            → place (push (cond b (some (node n found.at found.level)) none) (each (node_at p.places p.levels) n its_sites)) n
            ≡ cond b (some found) none
        here true e = rw (eq-eqb n n refl)
        here false e =
            each_skip (λ qs. place qs n) (node_at p.places p.levels) n its_sites (λ i qs l. other i qs (λ e. omega arith)) ∙ none_there

pub present-held : (p : Plan) (n : ℕ) → present (held p n) ≡ somewhere (get_or p.places n nowhere)
unfolding held
present-held p n = go (somewhere (get_or p.places n nowhere))
  where
    go : (b : Bool) → present (cond b (some (record { at = get_or p.places n nowhere; level = get_or p.levels n 0 })) none) ≡ b
    go true = refl
    go false = refl
