-- The sites and the nodes of a plan's value are as many as the entries of its arrays that stand for a record: each of these is one record more, and
-- records of another kind count for nothing. Assumes nothing.
use Prim.Native.Nat.{ℕ, zero, suc, ◌+◌, ◌<◌, ◌≤◌, min}
use native.Mathlib.Numerals.{add-one}
use native.Mathlib.Omega.{arith}
use mathlib.Core.Path.{◌≡◌, refl, sym, ap, ◌∙◌}
use mathlib.Core.Bool.{Bool, true, false, not, cond}
use mathlib.Core.List.{List, []}
use mathlib.Core.Option.{Option, none, some}
use lib.Dec.{eqb}
use lib.ListN.{length, get_or, take}
use Rattle.std.proofs.Common.{take_all, add-zero}
use Rattle.std.specs.List.{count_by}
use Rattle.std.proofs.lemmas.List.Sums.{count_by-le-length, count_by_more_yes, count_by_more_no}
use Rattle.lists.proofs.CountLaws.{get_or_inside}
use Rattle.ids.specs.Limits.{sites, nodes, most_edges}
use Rattle.model.specs.Plan.{Record, site, node, push, sites_of, listed}
use Rattle.model.specs.PlanValue.{Sized, nowhere, somewhere, each, site_at, node_at, edge_at}
use Rattle.model.specs.declared.Plan.{Plan}
use Rattle.model.proofs.HeldLaws.{each_skip, its_sites, its_nodes, records_each}
use Rattle.shown.specs.Heading.{site_count, node_count}

-- A count of records grows by one where the entry at the number's place passes a test, and so it is the count of the entries that do

module _ (look : List Record → ℕ) (f : ℕ → Option Record) (rs : List Record) (p : ℕ → Bool) (xs : List ℕ) where
  module _ (one : (i : ℕ) → i < length xs → (qs : List Record) → look (push (f i) qs) ≡ cond (p (get_or xs i 0)) (suc (look qs)) (look qs)) where
    counted_to : (k : ℕ) → k ≤ length xs → look (each f k rs) ≡ count_by p (take k xs) + look rs
    counted_to zero h = omega arith
    counted_to (suc k) h = go (counted_to k (omega arith)) (p (get_or xs k 0)) refl
      where
        go : look (each f k rs) ≡ count_by p (take k xs) + look rs → (b : Bool) → p (get_or xs k 0) ≡ b
            → look (each f (suc k) rs) ≡ count_by p (take (suc k) xs) + look rs
        go so true e =
            let grown : look (each f (suc k) rs) ≡ suc (look (each f k rs))
            = one k (omega arith) (each f k rs) ∙ ap (λ (b : Bool). cond b (suc (look (each f k rs))) (look (each f k rs))) e in
            omega (arith, grown, so, ap (λ (n : ℕ). count_by p (take n xs)) (sym (add-one k)) ∙ count_by_more_yes p xs k 0 (omega arith) e)
        go so false e =
            let same : look (each f (suc k) rs) ≡ look (each f k rs)
            = one k (omega arith) (each f k rs) ∙ ap (λ (b : Bool). cond b (suc (look (each f k rs))) (look (each f k rs))) e in
            omega (arith, same, so, ap (λ (n : ℕ). count_by p (take n xs)) (sym (add-one k)) ∙ count_by_more_no p xs k 0 (omega arith) e)

    counted : (k : ℕ) → length xs ≡ k → look (each f k rs) ≡ count_by p xs + look rs
    counted k e =
        counted_to k (omega arith) ∙ ap (λ (l : List ℕ). count_by p l + look rs) (take_all k xs (omega arith))

module _ (p : Plan) where
  -- the sites below k, and the nodes

  unfoldable pub sites_up_to : ℕ → ℕ
  sites_up_to k = length (sites_of (each (site_at p.threads) k []))

  unfoldable pub nodes_up_to : ℕ → ℕ
  nodes_up_to k = length (listed (each (node_at p.places p.levels) k (its_sites p)))

  -- all of them are the plan's: records of another kind count for nothing

  pub sites_together : sites_up_to sites ≡ site_count p
  unfolding sites_up_to site_count
  sites_together =
      sym (ap count (records_each p)
      ∙ each_skip count (edge_at p.pairs) (min p.edges most_edges) (its_nodes p) (λ i qs l. refl)
      ∙ each_skip count (node_at p.places p.levels) nodes (its_sites p) (λ i qs l. no_site i qs (somewhere (get_or p.places i nowhere))))
    where
      count : List Record → ℕ
      count rs = length (sites_of rs)

      no_site : (i : ℕ) (qs : List Record) (b : Bool)
          → count (push (cond b (some (node i (get_or p.places i nowhere) (get_or p.levels i 0))) none) qs) ≡ count qs
      no_site i qs true = refl
      no_site i qs false = refl

  pub nodes_together : nodes_up_to nodes ≡ node_count p
  unfolding nodes_up_to node_count listed
  nodes_together =
      sym (ap count (records_each p) ∙ each_skip count (edge_at p.pairs) (min p.edges most_edges) (its_nodes p) (λ i qs l. refl))
    where
      count : List Record → ℕ
      count rs = length (listed rs)

  module _ (sized : Sized p) where
    -- so each is the count of the entries that stand for a record

    pub sites_counted : count_by (λ t. not (eqb t 0)) p.threads ≡ site_count p
    unfolding sites_up_to
    sites_counted =
        sym (counted count (site_at p.threads) [] (λ t. not (eqb t 0)) p.threads (λ i l qs. one i qs (eqb (get_or p.threads i 0) 0)) sites sized.threads
        ∙ add-zero _)
        ∙ sites_together
      where
        count : List Record → ℕ
        count rs = length (sites_of rs)

        one : (i : ℕ) (qs : List Record) (b : Bool)
            → count (push (cond b none (some (site i (get_or p.threads i 0)))) qs) ≡ cond (not b) (suc (count qs)) (count qs)
        one i qs true = refl
        one i qs false = refl

    -- the code reads 0 past an array's end, where the definition says nowhere: within the array they agree
    pub nodes_counted : count_by somewhere p.places ≡ node_count p
    unfolding nodes_up_to listed
    nodes_counted =
        sym (counted count (node_at p.places p.levels) (its_sites p) somewhere p.places
        (λ i l qs.
        one i qs (somewhere (get_or p.places i nowhere))
        ∙ ap (λ (s : ℕ). cond (somewhere s) (suc (count qs)) (count qs)) (get_or_inside p.places i nowhere 0 l))
        nodes sized.places
        ∙ ap (λ (n : ℕ). count_by somewhere p.places + n)
        (each_skip count (site_at p.threads) sites [] (λ i qs l. no_node i qs (eqb (get_or p.threads i 0) 0)))
        ∙ add-zero _)
        ∙ nodes_together
      where
        count : List Record → ℕ
        count rs = length (listed rs)

        no_node : (i : ℕ) (qs : List Record) (b : Bool)
            → count (push (cond b none (some (site i (get_or p.threads i 0)))) qs) ≡ count qs
        no_node i qs true = refl
        no_node i qs false = refl

        one : (i : ℕ) (qs : List Record) (b : Bool)
            → count (push (cond b (some (node i (get_or p.places i nowhere) (get_or p.levels i 0))) none) qs) ≡ cond b (suc (count qs)) (count qs)
        one i qs true = refl
        one i qs false = refl

    -- and there are not many
    pub sites_few : site_count p ≤ sites
    sites_few = omega (arith, sites_counted, count_by-le-length (λ (t : ℕ). not (eqb t 0)) p.threads, sized.threads)

    pub nodes_few : node_count p ≤ nodes
    nodes_few = omega (arith, nodes_counted, count_by-le-length somewhere p.places, sized.places)
