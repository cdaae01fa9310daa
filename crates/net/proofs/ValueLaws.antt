-- A value tells the calls that it was made of: the table back as the list, the counts back row by row. So the value of a net that keeps the rules breaks none.
-- Assumes nothing.
use Prim.Native.Nat.{ℕ, ◌+◌, ◌*◌, ◌/◌, ◌%◌, ◌≤◌, ◌<◌}
use native.Mathlib.Omega.{arith}
use mathlib.Core.Path.{◌≡◌, refl, sym, ap, ap₂, ◌∙◌}
use mathlib.Core.Bool.{Bool, true, false, cond}
use mathlib.Core.List.{List}
use lib.ListN.{length, get_or}
use lib.Dec.{ltb}
use borrow.Author.Tests.{le-ltb, ltb-false}
use Rattle.ids.specs.Limits.{sites, most_threads, most_open, most_edges}
use Rattle.lists.proofs.PlaceLaws.{tell_there, passes_there}
use Rattle.lists.proofs.TabledLaws.{get_or-tabled, tabled-is}
use Rattle.model.specs.Plan.{Record}
use Rattle.model.specs.PlanValue.{records_of}
use Rattle.model.specs.Net.{Call, Core, counts}
use Rattle.model.specs.NetRules.{NetRules, Keeps, broken_rule}
use Rattle.model.specs.declared.Plan.{Plan}
use Rattle.model.proofs.NetRuleLaws.{rules_exactly}
use Rattle.model.proofs.CountsLaws.{counts-length}
use Rattle.moves.specs.Held.{ticket_number, parent_number, node_number}
use Rattle.moves.proofs.KeyLaws.{nobody}
use Rattle.value.specs.View.{call_of, spare, first_calls, core_of, row_of, broken}
use Rattle.value.specs.Handed.{holds_thread, call_at, table_of, count_at, counts_table, value_of}
use Rattle.value.specs.declared.Net.{Net}

same_call : {t u p q n m : ℕ} {a b : Bool} → t ≡ u → p ≡ q → n ≡ m → a ≡ b
    → ◌≡◌ {A = Call} (record { ticket = t; parent = p; node = n; active = a }) (record { ticket = u; parent = q; node = m; active = b })
same_call e f g h = cc

module _ (cs : List Call) (few : length cs ≤ most_open) where
  call_back : (i : ℕ) → i < length cs → get_or cs i nobody ≡ call_of (get_or (table_of cs) i spare)
  unfolding table_of call_at
  call_back i h =
      same_call (sym (tell_there ticket_number cs i nobody h)) (sym (tell_there parent_number cs i nobody h)) (sym (tell_there node_number cs i nobody h))
      (sym (passes_there holds_thread cs i nobody h))
      ∙ sym (ap call_of (get_or-tabled most_open (call_at cs) i spare (omega arith)))

  calls_back : first_calls (table_of cs) (length cs) ≡ cs
  unfolding first_calls
  calls_back = sym (tabled-is (length cs) (λ i. call_of (get_or (table_of cs) i spare)) cs nobody refl call_back)

row_back : (rs : List Record) (cs : List Call) (s : ℕ) → s < sites → row_of (counts_table rs cs) s ≡ counts rs cs s
unfolding row_of counts_table count_at
row_back rs cs s hs =
    sym
    (tabled-is most_threads (λ k. get_or (counts_table rs cs) (most_threads * s + k) 0) (counts rs cs s) 0 (counts-length rs s cs)
    (λ k hk.
    let i = most_threads * s + k in
    let site : i / most_threads ≡ s = omega arith in
    let level : i % most_threads ≡ k = omega arith in
    sym
    (get_or-tabled (sites * most_threads) (count_at rs cs) i 0 (omega arith)
    ∙ ap₂ (λ (t l : ℕ). get_or (counts rs cs t) l 0) site level)))

module _ (p : Plan) (cs : List Call) where
  abbrev core : Core
  core = record { plan = records_of p; calls = cs }

  pub core_back : length cs ≤ most_open → core_of (value_of p cs) ≡ core
  unfolding core_of value_of
  core_back few = ap (λ (ds : List Call). record { plan = records_of p; calls = ds }) (calls_back cs few)

  pub value_sound : p.edges ≤ most_edges → Keeps core → broken (value_of p cs) ≡ 0
  unfolding broken value_of
  value_sound edges keeps =
      ap (λ (b : Bool). cond b 1 (broken_rule (core_of (value_of p cs)) (row_of (counts_table (records_of p) cs)))) (le-ltb most_edges p.edges edges)
      ∙ ap (λ (c : Core). broken_rule c (row_of (counts_table (records_of p) cs))) (core_back keeps.few_open)
      ∙ (rules_exactly core (row_of (counts_table (records_of p) cs))).1
      (record {
        plan_passes = keeps.plan_passes;
        tickets_differ = keeps.tickets_differ;
        no_ticket_0 = keeps.no_ticket_0;
        nodes_known = keeps.nodes_known;
        parents_kept = keeps.parents_kept;
        counts_kept = λ s h. row_back (records_of p) cs s h;
        sites_lawful = keeps.sites_lawful;
        settled = keeps.settled;
        few_open = keeps.few_open;
      })

-- a value that breaks no rule tells a net that keeps them, over a plan whose edges have places
module _ (net : Net) (sound : broken net ≡ 0) where
  edges_tested : (b : Bool) → ltb most_edges net.plan.edges ≡ b → cond b 1 (broken_rule (core_of net) (row_of net.counts)) ≡ 0
      → (net.plan.edges ≤ most_edges) × (broken_rule (core_of net) (row_of net.counts) ≡ 0)
  edges_tested true e q = absurd (omega arith)
  edges_tested false e q = (ltb-false most_edges net.plan.edges e, q)

  pub sound_parts : (net.plan.edges ≤ most_edges) × (broken_rule (core_of net) (row_of net.counts) ≡ 0)
  unfolding broken
  sound_parts = edges_tested (ltb most_edges net.plan.edges) refl sound

  pub sound_rules : (net.plan.edges ≤ most_edges) × NetRules (core_of net) (row_of net.counts)
  sound_rules = (sound_parts.0, (rules_exactly (core_of net) (row_of net.counts)).0 sound_parts.1)

  pub sound_keeps : Keeps (core_of net)
  sound_keeps =
      let k = sound_rules.1 in
      record {
        plan_passes = k.plan_passes;
        tickets_differ = k.tickets_differ;
        no_ticket_0 = k.no_ticket_0;
        nodes_known = k.nodes_known;
        parents_kept = k.parents_kept;
        counts_kept = λ s h. refl;
        sites_lawful = k.sites_lawful;
        settled = k.settled;
        few_open = k.few_open;
      }

pub rules_sound : (net : Net) → net.plan.edges ≤ most_edges → NetRules (core_of net) (row_of net.counts) → broken net ≡ 0
unfolding broken
rules_sound net edges k = rw (le-ltb most_edges net.plan.edges edges) ((rules_exactly (core_of net) (row_of net.counts)).1 k)
