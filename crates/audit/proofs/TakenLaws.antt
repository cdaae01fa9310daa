-- One record more behind records that have no fault: its check over the plan so far is the records' own, so that the first fault is its own, and
-- where it has none the stored plan holds it. The first fault of some records stays that of more. Assumes nothing.
use Prim.Native.Nat.{ℕ, zero, suc, ◌+◌, ◌≤◌, ◌<◌, min}
use native.Mathlib.Omega.{arith}
use native.Mathlib.Numerals.{add-one}
use mathlib.Core.Path.{◌≡◌, refl, sym, ap, ap₂, subst, ◌∙◌}
use mathlib.Core.Option.{Option, none, some}
use Rattle.std.specs.Prelude.{Result, Ok, Err}
use mathlib.Core.List.{List, [], ◌∷◌}
use lib.ListN.{length, get_or}
use borrow.Author.Tests.{eq-eqb, ne_eqb, leb-true, leb-false}
use lib.Dec.{leb}
use mathlib.Core.Bool.{Bool, true, false}
use Rattle.ids.specs.Limits.{sites, nodes, most_edges}
use Rattle.lists.proofs.CountLaws.{get_or_inside}
use Rattle.model.specs.Plan.{Record, push, site, node, edge, six}
use Rattle.model.specs.PlanValue.{pair_at, nowhere, empty_plan, value, refusal_number, each, site_at, node_at, edge_at, records_of}
use Rattle.model.specs.PlanFault.{records_fault}
use Rattle.model.specs.declared.Plan.{Plan}
use Rattle.model.specs.declared.PlanRecord.{PlanRecord}
use Rattle.model.specs.declared.PlanRefusal.{PlanRefusal}
use Rattle.model.proofs.RefusalLaws.{refusal_named}
use Rattle.model.proofs.RecordLaws.{passes_ok}
use Rattle.model.proofs.PlanFaultLaws.{fault_kept, fault_new, records_fault_none}
use Rattle.record.specs.Step.{of_record, last_of, value_fault, stored_in}
use Rattle.record.proofs.RecordFaults.{fault_same, storable, stored_same}
use Rattle.audit.specs.Taken.{Taken, sites_to, nodes_to, edges_to}
use Rattle.audit.specs.declared.Audit.{Audit}

-- the fault of a record over a plan and the record before
abbrev pub over : Plan → PlanRecord → PlanRecord → ℕ
over p last next = value_fault p.threads p.places p.edges last next

-- no records yet
pub none_taken : (plan : Plan) → plan ≡ empty_plan → Taken [] (Ok (record { plan = plan; last = PlanRecord.End }))
unfolding value records_fault
none_taken plan e = (refl, e, refl)

-- One record more

module _ (rs : List Record) (old : Audit) (so : Taken rs (Ok old)) (r : Record) where
  its_fault : over old.plan old.last (of_record r) ≡ records_fault six (r ∷ rs)
  its_fault =
      ap₂ (λ (p : Plan) (l : PlanRecord). over p l (of_record r)) so.1 so.2
      ∙ fault_same rs (passes_ok six rs ((records_fault_none six rs).0 so.0)) r
      ∙ sym (fault_new six rs r so.0)

  -- that has a fault
  refused_now : (why : PlanRefusal) → refusal_number why ≡ over old.plan old.last (of_record r) → Taken (r ∷ rs) (Err why)
  refused_now why told = told ∙ its_fault

  -- and that has none
  taken_now : (new : Audit) → 0 ≡ over old.plan old.last (of_record r) → new.plan ≡ stored_in old.plan (of_record r) → new.last ≡ of_record r
      → Taken (r ∷ rs) (Ok new)
  unfolding value
  taken_now new told plan last =
      let over-value : over old.plan old.last (of_record r) ≡ over (value rs) (last_of rs) (of_record r)
      = ap₂ (λ (p : Plan) (l : PlanRecord). over p l (of_record r)) so.1 so.2 in
      let fits = storable (value rs).threads (value rs).places (value rs).edges (last_of rs) (of_record r) (sym over-value ∙ sym told) in
      (sym its_fault ∙ sym told, plan ∙ ap (λ (p : Plan). stored_in p (of_record r)) so.1 ∙ stored_same (value rs) r fits, last)

-- More records behind a fault

fault_on : (o : Option Record) (rs : List Record) → (records_fault six rs ≡ 0 → ⊥) → records_fault six (push o rs) ≡ records_fault six rs
fault_on none rs bad = refl
fault_on (some r) rs bad = fault_kept six rs r bad

module _ (f : ℕ → Option Record) (rs : List Record) where
  pub fault_stays : (n : ℕ) → (records_fault six rs ≡ 0 → ⊥) → records_fault six (each f n rs) ≡ records_fault six rs
  fault_stays zero bad = refl
  fault_stays (suc n) bad =
      let so = fault_stays n bad in fault_on (f n) (each f n rs) (λ z. bad (sym so ∙ z)) ∙ so

  fault-to : (i n : ℕ) → i ≤ n → (records_fault six (each f i rs) ≡ 0 → ⊥) → records_fault six (each f n rs) ≡ records_fault six (each f i rs)
  fault-to i zero l bad = let same : i ≡ 0 = omega arith in ap (λ (k : ℕ). records_fault six (each f k rs)) (sym same)
  fault-to i (suc n) l bad = go (λ m. fault-to i n m bad) (leb i n) refl
    where
      go : (i ≤ n → records_fault six (each f n rs) ≡ records_fault six (each f i rs)) → (b : Bool) → leb i n ≡ b
          → records_fault six (each f (suc n) rs) ≡ records_fault six (each f i rs)
      go before true e =
          let so = before (leb-true i n e) in fault_on (f n) (each f n rs) (λ z. bad (sym so ∙ z)) ∙ so
      go before false e =
          let same : i ≡ suc n = omega (arith, leb-false i n e) in ap (λ (k : ℕ). records_fault six (each f k rs)) (sym same)

  -- so a record that is refused at its place, behind records that have no fault, decides
  module _ (k : ℕ) (old : Audit) (so : Taken (each f k rs) (Ok old)) (r : Record) (here : each f (suc k) rs ≡ r ∷ each f k rs) where
    one_refused : (n : ℕ) → k < n → (why : PlanRefusal) → refusal_number why ≡ over old.plan old.last (of_record r) → Taken (each f n rs) (Err why)
    one_refused n l why told =
        let its : refusal_number why ≡ records_fault six (each f (suc k) rs)
        = refused_now (each f k rs) old so r why told ∙ ap (records_fault six) (sym here) in
        its ∙ sym (fault-to (suc k) n (omega arith) (λ z. (refusal_named why).1 (its ∙ z)))

    one_taken : (new : Audit) → 0 ≡ over old.plan old.last (of_record r) → new.plan ≡ stored_in old.plan (of_record r) → new.last ≡ of_record r
        → Taken (each f (k + 1) rs) (Ok new)
    one_taken new told plan last =
        subst (λ (l : List Record). Taken l (Ok new)) (sym (rw add-one here)) (taken_now (each f k rs) old so r new told plan last)

-- The records of a plan's value, one after the other

module _ (p : Plan) where
  pub sites_start : (plan : Plan) → plan ≡ empty_plan → Taken (sites_to p 0) (Ok (record { plan = plan; last = PlanRecord.End }))
  unfolding sites_to
  sites_start plan e = none_taken plan e

  pub nodes_start : (audit : Audit) → Taken (sites_to p sites) (Ok audit) → Taken (nodes_to p 0) (Ok audit)
  unfolding nodes_to
  nodes_start audit so = so

  pub edges_start : (audit : Audit) → Taken (nodes_to p nodes) (Ok audit) → Taken (edges_to p 0) (Ok audit)
  unfolding edges_to
  edges_start audit so = so

  -- a fault of those before
  pub nodes_late : (why : PlanRefusal) → Taken (sites_to p sites) (Err why) → Taken (nodes_to p nodes) (Err why)
  unfolding nodes_to
  nodes_late why so = so ∙ sym (fault_stays (node_at p.places p.levels) (sites_to p sites) nodes (λ z. (refusal_named why).1 (so ∙ z)))

  pub edges_late : (why : PlanRefusal) → Taken (nodes_to p nodes) (Err why) → Taken (edges_to p p.edges) (Err why)
  unfolding edges_to
  edges_late why so = so ∙ sym (fault_stays (edge_at p.pairs) (nodes_to p nodes) p.edges (λ z. (refusal_named why).1 (so ∙ z)))

  pub edges-all : (r : Result Audit PlanRefusal) → p.edges ≤ most_edges → Taken (edges_to p p.edges) r → Taken (records_of p) r
  unfolding edges_to nodes_to sites_to records_of
  edges-all r few so = let same : min p.edges most_edges ≡ p.edges = omega arith in rw same so

  module _ (s : ℕ) (old : Audit) (so : Taken (sites_to p s) (Ok old)) where
    abbrev site_here : Record
    site_here = site s (get_or p.threads s 0)

    module _ (listed : get_or p.threads s 0 ≡ 0 → ⊥) where
      pub site_refused : s < sites → (why : PlanRefusal) → refusal_number why ≡ over old.plan old.last (of_record site_here)
          → Taken (sites_to p sites) (Err why)
      unfolding sites_to
      site_refused l why told =
          one_refused (site_at p.threads) [] s old so site_here (rw (ne_eqb (get_or p.threads s 0) 0 listed)) sites l why told

      pub site_taken : (new : Audit) → 0 ≡ over old.plan old.last (of_record site_here) → new.plan ≡ stored_in old.plan (of_record site_here)
          → new.last ≡ of_record site_here → Taken (sites_to p (s + 1)) (Ok new)
      unfolding sites_to
      site_taken new told plan last =
          one_taken (site_at p.threads) [] s old so site_here (rw (ne_eqb (get_or p.threads s 0) 0 listed)) new told plan last

    pub site_none : get_or p.threads s 0 ≡ 0 → Taken (sites_to p (s + 1)) (Ok old)
    unfolding sites_to
    site_none unlisted = rw (add-one, eq-eqb (get_or p.threads s 0) 0 unlisted) so

  -- the code reads 0 past an array's end, where the definition says nowhere: within the array they agree
  module _ (n : ℕ) (inside : n < length p.places) (old : Audit) (so : Taken (nodes_to p n) (Ok old)) where
    at : get_or p.places n nowhere ≡ get_or p.places n 0
    at = get_or_inside p.places n nowhere 0 inside

    abbrev node_here : Record
    node_here = node n (get_or p.places n 0) (get_or p.levels n 0)

    module _ (listed : get_or p.places n 0 ≡ nowhere → ⊥) where
      pub node_refused : n < nodes → (why : PlanRefusal) → refusal_number why ≡ over old.plan old.last (of_record node_here)
          → Taken (nodes_to p nodes) (Err why)
      unfolding nodes_to
      node_refused l why told =
          one_refused (node_at p.places p.levels) (sites_to p sites) n old so node_here (rw (at, ne_eqb (get_or p.places n 0) nowhere listed)) nodes l why told

      pub node_taken : (new : Audit) → 0 ≡ over old.plan old.last (of_record node_here) → new.plan ≡ stored_in old.plan (of_record node_here)
          → new.last ≡ of_record node_here → Taken (nodes_to p (n + 1)) (Ok new)
      unfolding nodes_to
      node_taken new told plan last =
          one_taken (node_at p.places p.levels) (sites_to p sites) n old so node_here (rw (at, ne_eqb (get_or p.places n 0) nowhere listed)) new told plan last

    pub node-none : get_or p.places n 0 ≡ nowhere → Taken (nodes_to p (n + 1)) (Ok old)
    unfolding nodes_to
    node-none unlisted = rw (add-one, at, eq-eqb (get_or p.places n 0) nowhere unlisted) so

  module _ (i : ℕ) (old : Audit) (so : Taken (edges_to p i) (Ok old)) where
    abbrev edge_here : Record
    edge_here = edge (pair_at p.pairs i).caller.0 (pair_at p.pairs i).callee.0

    pub edge_refused : i < p.edges → (why : PlanRefusal) → refusal_number why ≡ over old.plan old.last (of_record edge_here)
        → Taken (edges_to p p.edges) (Err why)
    unfolding edges_to
    edge_refused l why told = one_refused (edge_at p.pairs) (nodes_to p nodes) i old so edge_here refl p.edges l why told

    pub edge_taken : (new : Audit) → 0 ≡ over old.plan old.last (of_record edge_here) → new.plan ≡ stored_in old.plan (of_record edge_here)
        → new.last ≡ of_record edge_here → Taken (edges_to p (i + 1)) (Ok new)
    unfolding edges_to
    edge_taken new told plan last = one_taken (edge_at p.pairs) (nodes_to p nodes) i old so edge_here refl new told plan last
