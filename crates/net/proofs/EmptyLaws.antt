-- The value of a net without calls, and what is made from a plan. Assumes nothing.
use Prim.Native.Nat.{ℕ, zero, suc, ◌*◌, ◌%◌}
use native.Mathlib.Omega.{arith}
use mathlib.Core.Path.{◌≡◌, refl, sym, ap, ap₂, ◌∙◌}
use mathlib.Core.Bool.{cond}
use mathlib.Core.List.{List, []}
use lib.ListN.{get_or, replicate, length-replicate}
use lib.Dec.{eqb}
use Rattle.std.specs.Prelude.{Result, Ok, Err}
use Rattle.ids.specs.Limits.{sites, most_threads}
use Rattle.lists.specs.Tabled.{tabled}
use Rattle.lists.proofs.TabledLaws.{tabled-is}
use Rattle.model.specs.PlanValue.{records_of}
use Rattle.model.specs.Net.{Call, counts}
use Rattle.model.specs.declared.Plan.{Plan}
use Rattle.model.specs.declared.Refusal.{Refusal}
use Rattle.model.specs.declared.PlanRefusal.{PlanRefusal}
use Rattle.model.specs.PlanValue.{refusal_number}
use Rattle.model.specs.PlanFault.{plan_fault}
use Rattle.model.proofs.RefusalLaws.{refusal_named, plan_named}
use Rattle.std.specs.Result.{MatchResult}
use borrow.Author.Tests.{ne_eqb}
use Rattle.record.specs.Step.{told_check}
use Rattle.audit.specs.Audits.{Audits}
use Rattle.audit.specs.declared.Audited.{Audited}
use Rattle.table.specs.Places.{Padded, Nothing}
use Rattle.table.specs.declared.Table.{Table}
use Rattle.moves.specs.Held.{Tells}
use Rattle.value.specs.View.{first_calls}
use Rattle.value.specs.Handed.{count_at, counts_table, value_of, make_answered}
use Rattle.value.specs.declared.Call.{Call as CallValue}
use Rattle.value.specs.declared.Net.{Net}
use Rattle.value.specs.declared.MadeNet.{MadeNet}
use Rattle.apart.specs.Apart.{Joining, Joinable, Joins}
use Rattle.apart.proofs.ApartLaws.{nothing_told}

zero_at : (n i : ℕ) → ◌≡◌ {A = ℕ} (get_or (replicate n 0) i 0) 0
zero_at zero i = refl
zero_at (suc n) zero = refl
zero_at (suc n) (suc i) = zero_at n i

none_told : {g : Call → ℕ} {numbers : List ℕ} {used : ℕ} → Padded numbers used → used ≡ 0 → Tells g [] numbers
unfolding first_calls tabled
none_told p e = nothing_told [] p e

-- an empty table holds no calls
nothing_joined : (p : Plan) {t : Table} → Nothing t → Joining (records_of p) [] t.tickets t.parents t.keys t.nodes t.used
nothing_joined p nobody =
    record {
      of_tickets = none_told nobody.tickets_table nobody.none_open;
      of_parents = none_told nobody.parents_table nobody.none_open;
      of_keys = none_told nobody.keys_table nobody.none_open;
      of_nodes = none_told nobody.nodes_table nobody.none_open;
      count = nobody.none_open;
      few = omega arith;
    }

pub joinable : (p : Plan) {t : Table} → Nothing t → Joinable t.tickets t.parents t.keys t.nodes t.used
joinable p nobody = (records_of p, [], nothing_joined p nobody)

no_counts : (p : Plan) → replicate (sites * most_threads) 0 ≡ counts_table (records_of p) []
unfolding counts_table count_at counts
no_counts p =
    tabled-is (sites * most_threads) (count_at (records_of p) []) (replicate (sites * most_threads) 0) 0 (length-replicate {A = ℕ} (sites * most_threads) 0)
    (λ i h. zero_at (sites * most_threads) i ∙ sym (zero_at most_threads (i % most_threads)))

pub empty_is : (p : Plan) {t : Table} {calls : List CallValue} → Nothing t → Joins t.tickets t.parents t.keys t.nodes t.used calls
    → ◌≡◌ {A = Net} (record { plan = p; calls = calls; used = 0; counts = replicate (sites * most_threads) 0 }) (value_of p [])
unfolding value_of
empty_is p nobody joins =
    ap₂ (λ (cs : List CallValue) (ns : List ℕ). record { plan = p; calls = cs; used = 0; counts = ns }) (joins (records_of p) [] (nothing_joined p nobody))
    (no_counts p)

pub made-is : (p : Plan) (audited : Audited) (answer : Result Unit Refusal) (net : Net) → Audits p audited
    → answer ≡ cond (eqb (told_check audited.checked) 0) (Ok tt) (Err Refusal.BrokenPlan) → net ≡ value_of audited.plan []
    → ◌≡◌ {A = MadeNet} (record { answer = answer; net = net }) (make_answered p)
unfolding make_answered
made-is p audited answer net audits e f =
    ap₂ (λ (a : Result Unit Refusal) (m : Net). record { answer = a; net = m })
    (e
    ∙ ap (λ (n : ℕ). cond (eqb n 0) (Ok tt) (Err Refusal.BrokenPlan)) audits.fault_is
    ∙ ap (λ (why : Refusal). cond (eqb (plan_fault p) 0) (Ok tt) (Err why)) (sym plan_named))
    (f ∙ ap (λ (q : Plan). value_of q []) audits.plan_is)

-- a fault is told by 18, and no fault by nothing
pub answer_is : (checked : Result Unit PlanRefusal) (r : Result Unit Refusal)
    → MatchResult checked (λ x. r ≡ Ok x) (λ e. r ≡ Err Refusal.BrokenPlan)
    → r ≡ cond (eqb (told_check checked) 0) (Ok tt) (Err Refusal.BrokenPlan)
answer_is (Ok x) r h = h
answer_is (Err why) r h = h ∙ sym (rw (ne_eqb (refusal_number why) 0 (refusal_named why).1))
