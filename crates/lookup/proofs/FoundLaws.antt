-- The place that the search answers, told by the meaning: where a ticket is open it is the place of its call, else the count of the open calls. The idea: the
-- test at a place is the definitions' test of the call there, and the first place that passes is that of the first call that does. Assumes nothing.
use Prim.Native.Nat.{ℕ, zero, suc, ◌≤◌, ◌<◌}
use native.Mathlib.Omega.{arith}
use mathlib.Core.Path.{◌≡◌, refl, sym, ap, subst, ◌∙◌}
use mathlib.Core.Bool.{Bool, true, false, cond}
use mathlib.Core.List.{List, [], ◌∷◌}
use mathlib.Core.Option.{Option as Maybe, none, some}
use Rattle.std.specs.Prelude.{Option, Some, None}
use lib.ListN.{length, get_or}
use lib.Dec.{ltb}
use borrow.Author.Tests.{lt-ltb, le-ltb}
use Rattle.ids.specs.Limits.{most_open}
use Rattle.lists.specs.Pick.{any, found, passes_at, first_place}
use Rattle.lists.proofs.TabledLaws.{length-tabled, get_or-tabled}
use Rattle.lists.proofs.TellLaws.{first_same, first_passes, place_inside, any_found, any_not_found}
use Rattle.model.specs.Net.{Call, has, lookup}
use Rattle.value.specs.View.{call_of, spare, first_calls, core_of}
use Rattle.value.specs.declared.Call.{Call as CallValue}
use Rattle.value.specs.declared.Net.{Net}
use Rattle.lookup.specs.Lookup.{has_at, place_in, placed}
use Rattle.lookup.proofs.SearchLaws.{has_inside}

-- Lists

passes_there : {A : Type 0} (f : A → Bool) (xs : List A) (i : ℕ) (d : A) → i < length xs → passes_at f xs i ≡ f (get_or xs i d)
unfolding passes_at
passes_there f [] i d h = absurd (omega arith)
passes_there f (x ∷ xs) zero d h = refl
passes_there f (x ∷ xs) (suc i) d h = passes_there f xs i d (omega arith)

get_or-first_place : {A : Type 0} (f : A → Bool) (xs : List A) (y d : A) → found f xs ≡ some y → get_or xs (first_place f xs) d ≡ y
unfolding found first_place
get_or-first_place f [] y d e = let z : ◌≡◌ {A = ℕ} 0 1 = cc in absurd (omega arith)
get_or-first_place {A} f (x ∷ xs) y d e = go (f x) e (get_or-first_place f xs y d)
  where
    go : (b : Bool) → cond b (some x) (found f xs) ≡ some y → (found f xs ≡ some y → get_or xs (first_place f xs) d ≡ y)
        → get_or (x ∷ xs) (cond b 0 (suc (first_place f xs))) d ≡ y
    go true q ih = cc
    go false q ih = ih q

-- A table and how many of its calls are open

module _ (calls : List CallValue) (used ticket : ℕ) (inside : used ≤ length calls) where
  cs : List Call
  cs = first_calls calls used

  cs_length : length cs ≡ used
  unfolding cs first_calls
  cs_length = length-tabled used (λ i. call_of (get_or calls i spare))

  cs_at : (i : ℕ) → i < used → get_or cs i (call_of spare) ≡ call_of (get_or calls i spare)
  unfolding cs first_calls
  cs_at i h = get_or-tabled used (λ j. call_of (get_or calls j spare)) i (call_of spare) h

  -- the test at a place is the definitions' test of the call there
  tests_agree : (i : ℕ) → i < used → has_at calls ticket i ≡ passes_at (has ticket) cs i
  unfolding has
  tests_agree i h =
      has_inside calls ticket i (omega arith)
      ∙ sym (passes_there (has ticket) cs i (call_of spare) (subst (λ (n : ℕ). i < n) (sym cs_length) h) ∙ ap (has ticket) (cs_at i h))

  place-told : place_in calls used ticket ≡ cond (any (has ticket) cs) (first_place (has ticket) cs) used
  unfolding place_in
  place-told =
      first_same used (has_at calls ticket) (passes_at (has ticket) cs) tests_agree
      ∙ first_passes (has ticket) cs used (subst (λ (n : ℕ). n ≤ used) (sym cs_length) (omega arith))

  place_none : lookup cs ticket ≡ none → place_in calls used ticket ≡ used
  place_none q = place-told ∙ ap (λ (b : Bool). cond b (first_place (has ticket) cs) used) (any_not_found (has ticket) cs q)

  place-some : (c : Call) → lookup cs ticket ≡ some c → place_in calls used ticket ≡ first_place (has ticket) cs
  place-some c q = place-told ∙ ap (λ (b : Bool). cond b (first_place (has ticket) cs) used) (any_found (has ticket) cs c q)

  place_below : (c : Call) → lookup cs ticket ≡ some c → place_in calls used ticket < used
  place_below c q = omega (arith, place_inside (has ticket) cs c q, cs_length, place-some c q)

  call_there : (c : Call) → lookup cs ticket ≡ some c → call_of (get_or calls (place_in calls used ticket) spare) ≡ c
  call_there c q =
      sym (cs_at (place_in calls used ticket) (place_below c q)) ∙ ap (λ (i : ℕ). get_or cs i (call_of spare)) (place-some c q)
      ∙ get_or-first_place (has ticket) cs c (call_of spare) q

-- A net

-- what an answer says of a ticket: the place of its open call, or none where no open call has it
pub data StandsAt (net : Net) (ticket : ℕ) (answer : Option ℕ) : Type 0 where
  nowhere : lookup (core_of net).calls ticket ≡ none → answer ≡ None → StandsAt net ticket answer
  there : (c : Call) (at : ℕ) → lookup (core_of net).calls ticket ≡ some c → answer ≡ Some at → at < net.used
      → call_of (get_or net.calls at spare) ≡ c
      → StandsAt net ticket answer

pub stands_at : (net : Net) (ticket : ℕ) → length net.calls ≡ most_open → net.used ≤ most_open
    → StandsAt net ticket (placed net.used (place_in net.calls net.used ticket))
unfolding core_of cs
stands_at net ticket whole few = go (lookup (core_of net).calls ticket) refl
  where
    inside : net.used ≤ length net.calls
    inside = subst (λ (n : ℕ). net.used ≤ n) (sym whole) few

    at : ℕ
    at = place_in net.calls net.used ticket

    told : (b : Bool) → ltb at net.used ≡ b → placed net.used at ≡ cond b (Some at) None
    told b e = ap (λ (t : Bool). cond t (Some at) None) e

    go : (o : Maybe Call) → lookup (core_of net).calls ticket ≡ o → StandsAt net ticket (placed net.used at)
    go none q = nowhere q (told false (le-ltb at net.used (omega (arith, place_none net.calls net.used ticket inside q))))
    go (some c) q =
        let below : at < net.used = place_below net.calls net.used ticket inside c q in
        there c at q (told true (lt-ltb at net.used below)) below (call_there net.calls net.used ticket inside c q)
