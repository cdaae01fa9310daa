-- How long a plan's file is: record by record it grows by that record's bytes, and so by 3 for a site or an edge and by 4 for a node. Assumes nothing.
use Prim.Native.Nat.{ℕ, zero, suc, ◌+◌, ◌*◌, ◌≤◌, min}
use native.Mathlib.Nat.{le_of_suc-le-suc, eq-or-lt_of_le}
use native.Mathlib.Omega.{arith}
use mathlib.Core.Path.{◌≡◌, refl, sym, ap, ◌∙◌}
use mathlib.Core.Logic.{⊎_elim}
use mathlib.Core.Bool.{Bool, true, false, cond}
use mathlib.Core.List.{List, [], ◌∷◌, ◌++◌, append-nil}
use mathlib.Core.Option.{Option, none, some}
use lib.Dec.{eqb}
use lib.ListN.{length, get_or, length-append}
use Rattle.ids.specs.Limits.{sites, nodes, most_edges}
use Rattle.model.specs.Plan.{Record, site, node, edge, push, sites_of, listed, edges, bytes_of, records_bytes}
use Rattle.model.specs.PlanValue.{nowhere, somewhere, each, site_at, node_at, edge_at, records_of}
use Rattle.model.specs.Writing.{plan_file, most_file, added}
use Rattle.model.specs.declared.Plan.{Plan}
use Rattle.model.proofs.ReadingLaws.{encode-length}
use Rattle.model.proofs.HeldLaws.{each_skip, its_sites, its_nodes, records_each}

-- one number more, with a record or none
pub records_push : (o : Option Record) (rs : List Record) → records_bytes (push o rs) ≡ records_bytes rs ++ added o
unfolding records_bytes
records_push none rs = sym (append-nil (records_bytes rs))
records_push (some r) rs = refl

pub push-length : (o : Option Record) (rs : List Record) → length (records_bytes (push o rs)) ≡ length (records_bytes rs) + length (added o)
push-length o rs = ap length (records_push o rs) ∙ length-append (records_bytes rs) (added o)

module _ (f : ℕ → Option Record) (rs : List Record) where
  -- more numbers never make a file shorter
  pub each_longer : (j k : ℕ) → j ≤ k → length (records_bytes (each f j rs)) ≤ length (records_bytes (each f k rs))
  each_longer j zero h = let none : j ≡ 0 = omega arith in rw none (omega arith)
  each_longer j (suc k) h =
      ⊎_elim
      (λ (e : j ≡ suc k). rw e (omega arith))
      (λ l. omega (arith, push-length (f k) (each f k rs), each_longer j k (le_of_suc-le-suc l)))
      (eq-or-lt_of_le h)

  -- and each adds so much at the most
  each_most : (size : ℕ) → ((i : ℕ) → length (added (f i)) ≤ size) → (k : ℕ)
      → length (records_bytes (each f k rs)) ≤ size * k + length (records_bytes rs)
  each_most size most zero = omega arith
  each_most size most (suc k) = omega (arith, push-length (f k) (each f k rs), most k, each_most size most k)

-- no file is longer than the largest
module _ (p : Plan) where
  site_most : (i : ℕ) → length (added (site_at p.threads i)) ≤ 3
  unfolding bytes_of
  site_most i = go (eqb (get_or p.threads i 0) 0)
    where
      go : (b : Bool) → length (added (cond b none (some (site i (get_or p.threads i 0))))) ≤ 3
      go true = omega arith
      go false = omega arith

  node_most : (i : ℕ) → length (added (node_at p.places p.levels i)) ≤ 4
  unfolding bytes_of
  node_most i = go (somewhere (get_or p.places i nowhere))
    where
      go : (b : Bool) → length (added (cond b (some (node i (get_or p.places i nowhere) (get_or p.levels i 0))) none)) ≤ 4
      go true = omega arith
      go false = omega arith

  edge_most : (i : ℕ) → length (added (edge_at p.pairs i)) ≤ 3
  unfolding bytes_of
  edge_most i = omega arith

  pub file_most : length (plan_file p) ≤ most_file
  unfolding plan_file records_bytes
  file_most =
      let count = min p.edges most_edges in
      omega (
        arith,
        encode-length (records_of p),
        ap (λ (rs : List Record). length (records_bytes rs)) (records_each p),
        each_most (site_at p.threads) [] 3 site_most sites,
        each_most (node_at p.places p.levels) (its_sites p) 4 node_most nodes,
        each_most (edge_at p.pairs) (its_nodes p) 3 edge_most count,
      )

-- The length by counts

records_counted : (rs : List Record) → length (records_bytes rs) ≡ 3 * length (sites_of rs) + 4 * length (listed rs) + 3 * edges rs
unfolding records_bytes bytes_of listed edges
records_counted [] = refl
records_counted (site s t ∷ rs) = omega (arith, length-append (records_bytes rs) (1 ∷ s ∷ t ∷ []), records_counted rs)
records_counted (node n s l ∷ rs) = omega (arith, length-append (records_bytes rs) (2 ∷ n ∷ s ∷ l ∷ []), records_counted rs)
records_counted (edge c d ∷ rs) = omega (arith, length-append (records_bytes rs) (3 ∷ c ∷ d ∷ []), records_counted rs)

-- the edges that a value holds are those below its count
edges-held : (p : Plan) → edges (records_of p) ≡ min p.edges most_edges
unfolding edges
edges-held p = ap edges (records_each p) ∙ all (min p.edges most_edges)
  where
    no_site : (i : ℕ) (qs : List Record) (b : Bool) → edges (push (cond b none (some (site i (get_or p.threads i 0)))) qs) ≡ edges qs
    no_site i qs true = refl
    no_site i qs false = refl

    no_node : (i : ℕ) (qs : List Record) (b : Bool)
        → edges (push (cond b (some (node i (get_or p.places i nowhere) (get_or p.levels i 0))) none) qs) ≡ edges qs
    no_node i qs true = refl
    no_node i qs false = refl

    yet : edges (its_nodes p) ≡ 0
    yet =
        each_skip edges (node_at p.places p.levels) nodes (its_sites p) (λ i qs l. no_node i qs (somewhere (get_or p.places i nowhere)))
        ∙ each_skip edges (site_at p.threads) sites [] (λ i qs l. no_site i qs (eqb (get_or p.threads i 0) 0))

    all : (k : ℕ) → edges (each (edge_at p.pairs) k (its_nodes p)) ≡ k
    all zero = yet
    all (suc k) = ap suc (all k)

-- and so the length of a value's file by what it holds
pub file_length : (p : Plan) → p.edges ≤ most_edges
    → length (plan_file p) ≡ 3 * length (sites_of (records_of p)) + 4 * length (listed (records_of p)) + 3 * p.edges + 1
unfolding plan_file
file_length p room = omega (arith, encode-length (records_of p), records_counted (records_of p), edges-held p)
