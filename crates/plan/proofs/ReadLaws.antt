-- A reading on its way: the bytes so far are those of some passing records, which the plan's value holds. Each way on or out is the one that the
-- reading's theorems name. Assumes nothing.
use Prim.Native.Nat.{ℕ, ◌+◌, ◌≤◌, ◌<◌}
use native.Mathlib.Omega.{arith}
use mathlib.Core.Path.{◌≡◌, refl, sym, ap, ap₂, subst, ◌∙◌}
use mathlib.Core.Logic.{inl, inr}
use Rattle.std.specs.Prelude.{Result, Ok, Err}
use mathlib.Core.Bool.{true}
use mathlib.Core.Option.{some}
use mathlib.Core.List.{List, [], ◌∷◌, ◌++◌, append_assoc}
use lib.ListN.{length, drop, length-append}
use lib.Seq.{drop_at}
use Rattle.model.specs.House.{Next, next, lacking, unknown, cut, whole}
use Rattle.model.specs.Plan.{Record, six, record_fault, passes, plan_kinds, bytes_of, records_bytes}
use Rattle.model.specs.Reading.{accepted, refused_at, unchecked, scanned}
use Rattle.model.specs.Faults.{fault_at, fault_next, fault_decoded}
use Rattle.model.specs.Records.{RecordsOk}
use Rattle.model.specs.PlanValue.{value, empty_plan, stored, refusal_number}
use Rattle.model.specs.declared.Plan.{Plan}
use Rattle.model.specs.declared.PlanRecord.{PlanRecord}
use Rattle.model.specs.declared.PlanRefusal.{PlanRefusal}
use Rattle.model.proofs.FaultLaws.{next_record}
use Rattle.model.proofs.ReadingLaws.{read-accepts, read_refuses, encode_rest, encode-length}
use Rattle.model.proofs.ScanLaws.{passes-step}
use Rattle.model.proofs.RecordLaws.{passes_ok}
use Rattle.model.proofs.RefusalLaws.{refusal_named}
use Rattle.record.specs.Step.{of_record, last_of, next_in, from_next, value_fault, stored_in}
use Rattle.record.proofs.RecordFaults.{fault_same, storable, stored_same}
use Rattle.record.specs.declared.Found.{Found}
use Rattle.plan.specs.Answers.{Turn}
use Rattle.plan.proofs.StandsLaws.{Whole, as_record, Stands, stands}

-- The way

-- the bytes before an offset are those of some passing records, which the plan holds and of which `last` is the latest
pub record Way (bytes : List ℕ) (plan : Plan) (last : PlanRecord) (at : ℕ) : Type 0 where
  pub records : List Record
  pub plan_is : plan ≡ value records
  pub last_is : last ≡ last_of records
  pub split : bytes ≡ records_bytes records ++ drop at bytes
  pub at_is : at ≡ length (records_bytes records)
  pub passing : passes six records ≡ true

pub start : (bytes : List ℕ) (plan : Plan) → plan ≡ empty_plan → Way bytes plan PlanRecord.End 0
unfolding value records_bytes passes
start bytes plan e = record { records = []; plan_is = e; last_is = refl; split = refl; at_is = refl; passing = refl }

-- nothing is asked of the end record
end_passes : (threads places : List ℕ) (edges : ℕ) (last : PlanRecord) → value_fault threads places edges last PlanRecord.End ≡ 0
end_passes threads places edges (PlanRecord.Site s t) = refl
end_passes threads places edges (PlanRecord.Node n s l) = refl
end_passes threads places edges (PlanRecord.Edge c d) = refl
end_passes threads places edges PlanRecord.End = refl

module _ (bytes : List ℕ) (plan : Plan) (last : PlanRecord) (at : ℕ) (way : Way bytes plan last at) where
  ok : RecordsOk way.records
  ok = passes_ok six way.records way.passing

  -- no further than the bytes go
  pub inside_bytes : at ≤ length bytes
  inside_bytes = omega (arith, ap length way.split ∙ length-append (records_bytes way.records) (drop at bytes), way.at_is)

  refuses : (n : ℕ) → (n ≡ 0 → ⊥) → fault_at six unchecked way.records (drop at bytes) ≡ n → scanned bytes ≡ refused_at n at
  unfolding scanned
  refuses n real e =
      (read_refuses six unchecked bytes n at).1
      (record {
        records = way.records;
        tail = drop at bytes;
        split = way.split;
        at_is = way.at_is;
        passing = way.passing;
        fault = e;
        real = real;
      })

  -- what cannot be read
  pub unread_stops : (why : PlanRefusal) → next_in bytes at ≡ Err why → scanned bytes ≡ refused_at (refusal_number why) at
  unfolding fault_at
  unread_stops why e = refuses (refusal_number why) (refusal_named why).1 (go (next plan_kinds (drop at bytes)) e)
    where
      told : (w : PlanRefusal) → ◌≡◌ {A = Result Found PlanRefusal} (Err w) (Err why) → refusal_number w ≡ refusal_number why
      told w q = let same : w ≡ why = cc in ap refusal_number same

      go : (n : Next) → from_next n at ≡ Err why → fault_next six unchecked way.records n ≡ refusal_number why
      go lacking q = told PlanRefusal.InputEnds q
      go unknown q = told PlanRefusal.UnknownKind q
      go cut q = told PlanRefusal.InputEnds q
      go (whole k b r) q = absurd (cc)

  -- the end record
  pub end_stops : (behind : ℕ) → next_in bytes at ≡ Whole PlanRecord.End behind → scanned bytes ≡ accepted way.records behind
  unfolding scanned
  end_stops behind e =
      let t = stands bytes at PlanRecord.End behind e in
      (read-accepts six unchecked bytes way.records behind).1
      (record {
        rest = t.0;
        split = way.split ∙ ap (λ (l : List ℕ). records_bytes way.records ++ l) t.1 ∙ sym (encode_rest way.records t.0);
        used_is = t.2 ∙ ap (λ (n : ℕ). n + 1) way.at_is ∙ sym (encode-length way.records);
        passing = way.passing;
        no_fault = refl;
      })

  -- a record, with what its checks answer
  module _ (r : Record) (behind : ℕ) (e : next_in bytes at ≡ Whole (of_record r) behind) where
    here : Stands (drop at bytes) at (some r) behind
    here = go r (stands bytes at (of_record r) behind e)
      where
        go : (q : Record) → Stands (drop at bytes) at (as_record (of_record q)) behind → Stands (drop at bytes) at (some q) behind
        go (Record.site s t) v = v
        go (Record.node n s l) v = v
        go (Record.edge c d) v = v

    abbrev its_fault : ℕ
    its_fault = value_fault plan.threads plan.places plan.edges last (of_record r)

    checked : its_fault ≡ record_fault six way.records r
    checked =
        ap₂ (λ (p : Plan) (l : PlanRecord). value_fault p.threads p.places p.edges l (of_record r)) way.plan_is way.last_is
        ∙ fault_same way.records ok r

    record_stops : (n : ℕ) → (n ≡ 0 → ⊥) → n ≡ its_fault → scanned bytes ≡ refused_at n at
    unfolding fault_at
    record_stops n real f =
        let k = next_record r here.0 in
        let fault : fault_at six unchecked way.records (drop at bytes) ≡ record_fault six way.records r
        = ap (fault_at six unchecked way.records) here.1
        ∙ ap (fault_next six unchecked way.records) k.next_is
        ∙ ap (fault_decoded six unchecked way.records) k.decodes in
        refuses n real (fault ∙ sym checked ∙ sym f)

    further : at < behind
    unfolding bytes_of
    further = omega (arith, here.2, longer r)
      where
        longer : (q : Record) → 0 < length (bytes_of q)
        longer (Record.site s t) = omega arith
        longer (Record.node n s l) = omega arith
        longer (Record.edge c d) = omega arith

    onward : 0 ≡ its_fault → Way bytes (stored plan r) (of_record r) behind
    unfolding value records_bytes
    onward f =
        let so_far = records_bytes way.records ++ bytes_of r in
        let whole : bytes ≡ so_far ++ here.0
        = way.split
        ∙ ap (λ (l : List ℕ). records_bytes way.records ++ l) here.1
        ∙ sym (append_assoc (records_bytes way.records) (bytes_of r) here.0) in
        let size : length so_far ≡ behind
        = length-append (records_bytes way.records) (bytes_of r)
        ∙ ap (λ (n : ℕ). n + length (bytes_of r)) (sym way.at_is)
        ∙ sym here.2 in
        let rest : drop behind bytes ≡ here.0 = ap (drop behind) whole ∙ drop_at so_far here.0 behind size in
        record {
          records = r ∷ way.records;
          plan_is = ap (λ (p : Plan). stored p r) way.plan_is;
          last_is = refl;
          split = whole ∙ ap (λ (l : List ℕ). so_far ++ l) (sym rest);
          at_is = sym size;
          passing = (passes-step six r way.records).1 (way.passing, sym checked ∙ sym f);
        }

  -- any record of the file that has a fault
  misfit_stops : (found : Found) → next_in bytes at ≡ Ok found → (why : PlanRefusal)
      → refusal_number why ≡ value_fault plan.threads plan.places plan.edges last found.next → scanned bytes ≡ refused_at (refusal_number why) at
  misfit_stops found e why f = go found.next e f
    where
      real : refusal_number why ≡ 0 → ⊥
      real = (refusal_named why).1

      go : (q : PlanRecord) → next_in bytes at ≡ Whole q found.behind
          → refusal_number why ≡ value_fault plan.threads plan.places plan.edges last q → scanned bytes ≡ refused_at (refusal_number why) at
      go (PlanRecord.Site s t) p g = record_stops (Record.site s.0 t) found.behind p (refusal_number why) real g
      go (PlanRecord.Node n s l) p g = record_stops (Record.node n.0 s.0 l.0) found.behind p (refusal_number why) real g
      go (PlanRecord.Edge c d) p g = record_stops (Record.edge c.0 d.0) found.behind p (refusal_number why) real g
      go PlanRecord.End p g = absurd (real (g ∙ end_passes plan.threads plan.places plan.edges last))

  pub stopped : (why : PlanRefusal) → Turn bytes at plan last (Err why) → scanned bytes ≡ refused_at (refusal_number why) at
  stopped why (inl e) = unread_stops why e
  stopped why (inr w) = misfit_stops w.0 w.1 why w.2

  -- a record that passes goes into the plan, but for the end record
  pub stepped : (found : Found) → (found.next ≡ PlanRecord.End → ⊥) → Turn bytes at plan last (Ok found)
      → (at < found.behind) × Way bytes (stored_in plan found.next) found.next found.behind
  stepped found more w = go found.next more w.0 w.1
    where
      on : (r : Record) → next_in bytes at ≡ Whole (of_record r) found.behind → 0 ≡ value_fault plan.threads plan.places plan.edges last (of_record r)
          → (at < found.behind) × Way bytes (stored_in plan (of_record r)) (of_record r) found.behind
      on r e f =
          let fits = storable plan.threads plan.places plan.edges last (of_record r) (sym f) in
          let next : Way bytes (stored plan r) (of_record r) found.behind = onward r found.behind e f in
          (further r found.behind e, subst (λ (p : Plan). Way bytes p (of_record r) found.behind) (sym (stored_same plan r fits)) next)

      go : (q : PlanRecord) → (q ≡ PlanRecord.End → ⊥) → next_in bytes at ≡ Whole q found.behind
          → 0 ≡ value_fault plan.threads plan.places plan.edges last q → (at < found.behind) × Way bytes (stored_in plan q) q found.behind
      go (PlanRecord.Site s t) m e f = on (Record.site s.0 t) e f
      go (PlanRecord.Node n s l) m e f = on (Record.node n.0 s.0 l.0) e f
      go (PlanRecord.Edge c d) m e f = on (Record.edge c.0 d.0) e f
      go PlanRecord.End m e f = absurd (m refl)
