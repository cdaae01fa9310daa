-- The value that is put together is the one value of the calls: no count is beyond a byte, since each site is lawful, and each place of the counts is that of
-- its site and level. Assumes nothing.
use Prim.Native.Nat.{ℕ, ◌+◌, ◌*◌, ◌/◌, ◌%◌, ◌≤◌, ◌<◌}
use native.Mathlib.Omega.{arith}
use mathlib.Core.Path.{◌≡◌, refl, sym, ap, subst, ◌∙◌}
use mathlib.Core.Logic.{⊎_elim}
use mathlib.Core.List.{List}
use lib.ListN.{get_or}
use Rattle.std.specs.Prelude.{Option, Some, None, MatchOption}
use Rattle.std.specs.Option.{unwrap_or}
use Rattle.ids.specs.Limits.{sites, most_threads}
use Rattle.lists.proofs.CountLaws.{lt_or_ge}
use Rattle.lists.proofs.TabledLaws.{tabled-is}
use Rattle.model.specs.Site.{A}
use Rattle.model.specs.Plan.{threads}
use Rattle.model.specs.PlanValue.{Sized, records_of}
use Rattle.model.specs.Net.{Call, counts}
use Rattle.model.specs.declared.Plan.{Plan}
use Rattle.model.proofs.SiteLaws.{A-step, A_down, lawful_at}
use Rattle.model.proofs.PlaceLaws.{threads_most}
use Rattle.model.proofs.AdmitLaws.{within}
use Rattle.value.specs.Handed.{table_of, count_at, counts_table, value_of}
use Rattle.value.specs.declared.Call.{Call as CallValue}
use Rattle.value.specs.declared.Net.{Net}
use Rattle.value.proofs.NodeLaws.{node_inside, site_there, level_there}
use Rattle.table.specs.declared.Table.{Table}
use Rattle.tally.specs.Tally.{CountsTell, CountTold, Counting}
use Rattle.pack.specs.Packed.{Packing}

module _ {plan : Plan} (sized : Sized plan) {cs : List Call} {t : Table} (ok : Packing plan cs t) where
  pub counting : Counting (records_of plan) cs t.keys t.nodes t.used plan.places plan.levels
  counting =
      record {
        placing =
            record {
              pass = ok.firm.pass;
              places_whole = sized.places;
              levels_whole = sized.levels;
              nodes_inside = λ n h. node_inside plan sized n h;
              places_are = λ n h. sym (site_there plan sized n h);
              levels_are = λ n h. sym (level_there plan sized n h);
            };
        of_keys = ok.joining.of_keys;
        of_nodes = ok.joining.of_nodes;
        count = ok.joining.count;
        few = ok.joining.few;
        known = ok.firm.known;
      }

  -- a lawful site has no more active calls than threads
  few_active : (s k : ℕ) → get_or (counts (records_of plan) cs s) k 0 ≤ most_threads
  few_active s k =
      let a = counts (records_of plan) cs s in
      ⊎_elim
      (λ (p : 0 < threads (records_of plan) s).
      omega (
        arith,
        A-step a k,
        A_down a 0 k (omega arith),
        lawful_at (threads (records_of plan) s) a (ok.firm.law s) 0 p,
        threads_most (records_of plan) ok.firm.pass s,
      ))
      (λ (p : threads (records_of plan) s ≤ 0).
      let none : threads (records_of plan) s ≡ 0 = omega arith in
      omega (arith, A-step a k, A_down a 0 k (omega arith), ap (A a) none, within (records_of plan) ok.firm.pass cs ok.firm.known s))
      (lt_or_ge 0 (threads (records_of plan) s))

  -- so that every count was held by its byte
  counted : (r : Option (List ℕ)) (numbers : List ℕ) → MatchOption r Unit (λ x. numbers ≡ x) → CountTold (records_of plan) cs r
      → CountsTell (records_of plan) cs numbers
  counted (Some held) numbers is told = subst (CountsTell (records_of plan) cs) (sym is) told
  counted None numbers is over = absurd (omega (arith, over.many, few_active over.site over.level))

  counts-told : {numbers : List ℕ} → CountsTell (records_of plan) cs numbers → numbers ≡ counts_table (records_of plan) cs
  unfolding counts_table count_at
  counts-told {numbers} told =
      tabled-is (sites * most_threads) (count_at (records_of plan) cs) numbers 0 told.whole
      (λ i h.
      let there : most_threads * (i / most_threads) + i % most_threads ≡ i = omega arith in
      ap (λ (j : ℕ). get_or numbers j 0) (sym there) ∙ told.each (i / most_threads) (i % most_threads) (omega arith) (omega arith))

  -- whatever numbers stand where a count has none
  pub packed_numbers : {calls : List CallValue} (r : Option (List ℕ)) (numbers : List ℕ) → MatchOption r Unit (λ x. numbers ≡ x)
      → CountTold (records_of plan) cs r → calls ≡ table_of cs
      → ◌≡◌ {A = Net} (record { plan = plan; calls = calls; used = t.used; counts = numbers }) (value_of plan cs)
  unfolding value_of
  packed_numbers {calls} r numbers is h e =
      let f = counts-told (counted r numbers is h) in
      let u = ok.joining.count in
      cc

  -- the same for who gives them beside the count, as a proof over `unwrap_or` has them
  pub packed_is : {calls : List CallValue} (r : Option (List ℕ)) (spare : List ℕ) → CountTold (records_of plan) cs r → calls ≡ table_of cs
      → ◌≡◌ {A = Net} (record { plan = plan; calls = calls; used = t.used; counts = unwrap_or r spare }) (value_of plan cs)
  packed_is r spare h e = packed_numbers r (unwrap_or r spare) (itself r) h e
    where
      itself : (o : Option (List ℕ)) → MatchOption o Unit (λ x. unwrap_or o spare ≡ x)
      itself (Some held) = refl
      itself None = tt
