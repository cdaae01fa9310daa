-- The checks over the plan's value are the checks on the records that it holds: the lookups agree, and the record before is the last one. A record
-- that passes can be stored, and the number of an answer determines it. Assumes nothing.
use Prim.Native.Nat.{ℕ, suc, ◌<◌}
use native.Mathlib.Omega.{arith}
use borrow.Author.Tests.{ltb-true, lt-ltb}
use mathlib.Core.Path.{◌≡◌, refl, sym, ap, ap₂, ◌∙◌}
use Rattle.std.specs.Prelude.{Option, Some, None, Result, Ok, Err}
use mathlib.Core.Bool.{Bool, true, false, not, ◌&&◌, cond}
use mathlib.Core.List.{List, [], ◌∷◌}
use lib.Dec.{ltb, leb, eqb}
use Rattle.ids.specs.Limits.{sites, most_threads, nodes, most_edges}
use Rattle.lists.proofs.CountLaws.{and_left}
use Rattle.model.specs.Plan.{Record, site, node, edge, place, present, six, follows, in_range, known, level_below, room_for, record_fault}
use Rattle.model.specs.Records.{RecordsOk}
use Rattle.model.specs.PlanValue.{value, stored}
use Rattle.model.specs.declared.Plan.{Plan}
use Rattle.model.specs.declared.PlanRecord.{PlanRecord}
use Rattle.model.proofs.PlanValueLaws.{edges-value, threads-value, present-value}
use Rattle.model.proofs.RefusalLaws.{refusal_named, refusal_injective}
use Rattle.record.specs.Step.{body_told, of_record, last_of, follows_last, listed_node, kind_fault, value_fault, stored_in, told_check}
use Rattle.model.specs.declared.PlanRefusal.{PlanRefusal}

follows_same : (rs : List Record) (r : Record) → follows_last (last_of rs) (of_record r) ≡ follows rs r
unfolding follows
follows_same [] (site s t) = refl
follows_same [] (node n s l) = refl
follows_same [] (edge c d) = refl
follows_same (site a b ∷ rs) (site s t) = refl
follows_same (site a b ∷ rs) (node n s l) = refl
follows_same (site a b ∷ rs) (edge c d) = refl
follows_same (node m a b ∷ rs) (site s t) = refl
follows_same (node m a b ∷ rs) (node n s l) = refl
follows_same (node m a b ∷ rs) (edge c d) = refl
follows_same (edge a b ∷ rs) (site s t) = refl
follows_same (edge a b ∷ rs) (node n s l) = refl
follows_same (edge a b ∷ rs) (edge c d) = refl

module _ (rs : List Record) (ok : RecordsOk rs) where
  pub fault_same : (r : Record)
      → value_fault (value rs).threads (value rs).places (value rs).edges (last_of rs) (of_record r) ≡ record_fault six rs r
  unfolding record_fault in_range known level_below room_for
  fault_same (site s t) =
      ap (λ (b : Bool). cond b (cond (ltb s sites && (ltb 0 t && leb t most_threads)) 0 4) 3) (follows_same rs (site s t))
  fault_same (node n s l) =
      ap₂ (λ (b : Bool) (t : ℕ). cond b (cond (ltb n nodes) (cond (not (eqb t 0)) (cond (ltb l t) 0 6) 5) 4) 3)
      (follows_same rs (node n s l))
      (threads-value rs ok s)
  fault_same (edge c d) =
      ap₂ (λ (b k : Bool). cond b (cond k (cond (ltb (value rs).edges most_edges) 0 9) 5) 3)
      (follows_same rs (edge c d))
      (ap₂ ◌&&◌ (sym (present-value rs ok c)) (sym (present-value rs ok d)))
      ∙ ap (λ (e : ℕ). cond (follows rs (edge c d)) (cond (present (place rs c) && present (place rs d)) (cond (ltb e most_edges) 0 9) 5) 3)
      (edges-value rs)

-- a test that gives no number holds
passed_test : (b : Bool) (x n : ℕ) → cond b x (suc n) ≡ 0 → (b ≡ true) × (x ≡ 0)
passed_test true x n e = (refl, e)
passed_test false x n e = absurd (omega arith)

-- a record that passes its checks has a place in the value
abbrev pub Storable : ℕ → PlanRecord → Type 0
Storable edges (PlanRecord.Site s t) = s.0 < sites
Storable edges (PlanRecord.Node n s l) = n.0 < nodes
Storable edges (PlanRecord.Edge c d) = edges < most_edges
Storable edges PlanRecord.End = Unit {0}

pub storable : (threads places : List ℕ) (edges : ℕ) (last r : PlanRecord) → value_fault threads places edges last r ≡ 0 → Storable edges r
storable threads places edges last r e = go r (passed_test (follows_last last r) (kind_fault threads places edges r) 2 e).1
  where
    go : (q : PlanRecord) → kind_fault threads places edges q ≡ 0 → Storable edges q
    go (PlanRecord.Site s t) f =
        let more = ltb 0 t && leb t most_threads in
        ltb-true s.0 sites (and_left (ltb s.0 sites) more (passed_test (ltb s.0 sites && more) 0 3 f).0)
    go (PlanRecord.Node n s l) f = ltb-true n.0 nodes (passed_test (ltb n.0 nodes) _ 3 f).0
    go (PlanRecord.Edge c d) f =
        let known_both = passed_test (listed_node places c.0 && listed_node places d.0) (cond (ltb edges most_edges) 0 9) 4 f in
        ltb-true edges most_edges (passed_test (ltb edges most_edges) 0 8 known_both.1).0
    go PlanRecord.End f = tt

pub stored_same : (p : Plan) (r : Record) → Storable p.edges (of_record r) → stored_in p (of_record r) ≡ stored p r
stored_same p (site s t) h = rw (lt-ltb s sites h)
stored_same p (node n s l) h = rw (lt-ltb n nodes h)
stored_same p (edge c d) h = rw (lt-ltb p.edges most_edges h)

-- the number of a check's answer determines it
pub check_injective : (a b : Result (Unit {0}) PlanRefusal) → told_check a ≡ told_check b → a ≡ b
check_injective (Ok u) (Ok v) e = refl
check_injective (Ok u) (Err w) e = absurd ((refusal_named w).1 (sym e))
check_injective (Err w) (Ok u) e = absurd ((refusal_named w).1 e)
check_injective (Err w) (Err x) e = ap Err (refusal_injective w x e)

-- and so does the length of a body
pub body_injective : (a b : Option ℕ) → body_told a ≡ body_told b → a ≡ b
body_injective (Some n) (Some m) e = let same : n ≡ m = cc in ap Some same
body_injective (Some n) None e = cc
body_injective None (Some m) e = cc
body_injective None None e = refl
