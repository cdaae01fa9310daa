-- The arrays of open calls under opening, closing and waking, and what the searches in them find: each array tells one number of each call, place by place.
-- Assumes nothing.
use Prim.Native.Nat.{ℕ, zero, suc, ◌+◌, ◌≤◌, ◌<◌}
use native.Mathlib.Omega.{arith}
use native.Mathlib.Numerals.{add-one}
use mathlib.Core.Path.{◌≡◌, refl, sym, ap, subst, ◌∙◌}
use mathlib.Core.Logic.{⊎_elim}
use mathlib.Core.Bool.{Bool, cond}
use mathlib.Core.List.{List, [], ◌∷◌, ◌++◌}
use mathlib.Core.Option.{Option, none, some}
use lib.ListN.{length, get_or, set, length-set}
use lib.Seq.{get_or-set_same, get_or-set_other}
use lib.Dec.{eqb}
use borrow.Author.Tests.{ne_eqb, eqb-true, lt-ltb, le-ltb, eqb-false}
use Rattle.ids.specs.Limits.{most_open}
use Rattle.lists.specs.Count.{first, some as holds-below}
use Rattle.lists.specs.Pick.{any, found, without, changed, tell, passes_at, first_place}
use Rattle.lists.proofs.CountLaws.{true_or_false, lt_or_ge}
use Rattle.lists.proofs.TellLaws.{first_same, some_same, tell-past, tell_more, place_inside, tell-place, tell-without, tell-changed, tell_blind}
use Rattle.lists.proofs.TellLaws.{first_passes, some-passes, any_found, any_not_found}
use Rattle.model.specs.Net.{Call, has, lookup, is_child}
use Rattle.table.specs.Places.{holds, Padded, next_of, Closing}
use Rattle.moves.specs.Held.{Tells}

-- an array that tells the calls is a table with zeros past their count
pub tells_table : {g : Call → ℕ} {cs : List Call} {numbers : List ℕ} {used : ℕ} → Tells g cs numbers → used ≡ length cs → length cs ≤ most_open
    → Padded numbers used
tells_table {g} {cs} t e few =
    record { whole = t.whole; few = omega arith; zeros = λ i h. t.each i ∙ tell-past g cs i (omega arith) }

-- Opening

pub tells_opened : {g : Call → ℕ} {cs : List Call} {numbers : List ℕ} (c : Call) (used v : ℕ) → Tells g cs numbers → used ≡ length cs → length cs < most_open
    → v ≡ g c → Tells g (cs ++ (c ∷ [])) (set numbers used v)
tells_opened {g} {cs} {numbers} c used v t e room same = record { whole = length-set numbers used v ∙ t.whole; each = at }
  where
    at : (i : ℕ) → get_or (set numbers used v) i 0 ≡ tell g (cs ++ (c ∷ [])) i
    at i =
        ⊎_elim
        (λ q.
        let here : i ≡ length cs = eqb-true i (length cs) q in
        let there : used ≡ i = omega arith in
        subst (λ (j : ℕ). get_or (set numbers used v) j 0 ≡ v) there (get_or-set_same numbers used v 0 (omega (arith, t.whole)))
        ∙ same ∙ sym (tell_more g cs c i ∙ ap (λ (b : Bool). cond b (g c) (tell g cs i)) q))
        (λ q.
        let apart = eqb-false i (length cs) q in
        get_or-set_other numbers used i v 0 (λ p. apart (p ∙ e)) ∙ t.each i
        ∙ sym (tell_more g cs c i ∙ ap (λ (b : Bool). cond b (g c) (tell g cs i)) q))
        (true_or_false (eqb i (length cs)))

-- a call whose number is 0 leaves its array as it is
pub tells_opened_0 : {g : Call → ℕ} {cs : List Call} {numbers : List ℕ} (c : Call) → Tells g cs numbers → g c ≡ 0 → Tells g (cs ++ (c ∷ [])) numbers
tells_opened_0 {g} {cs} {numbers} c t zero-there = record { whole = t.whole; each = at }
  where
    at : (i : ℕ) → get_or numbers i 0 ≡ tell g (cs ++ (c ∷ [])) i
    at i =
        ⊎_elim
        (λ q.
        let here : i ≡ length cs = eqb-true i (length cs) q in
        t.each i ∙ tell-past g cs i (omega arith) ∙ sym (tell_more g cs c i ∙ ap (λ (b : Bool). cond b (g c) (tell g cs i)) q ∙ zero-there))
        (λ q. t.each i ∙ sym (tell_more g cs c i ∙ ap (λ (b : Bool). cond b (g c) (tell g cs i)) q))
        (true_or_false (eqb i (length cs)))

-- Closing

pub tells_closed : {g : Call → ℕ} {cs : List Call} {numbers after : List ℕ} (f : Call → Bool) (at used : ℕ) → Tells g cs numbers → used ≡ length cs
    → at ≡ first_place f cs → Closing at used numbers after → Tells g (without f cs) after
unfolding next_of
tells_closed {g} {cs} {numbers} {after} f at used t e here closing = record { whole = closing.long ∙ t.whole; each = each-place }
  where
    each-place : (i : ℕ) → get_or after i 0 ≡ tell g (without f cs) i
    each-place i =
        ⊎_elim
        (λ (p : i < at).
        closing.outside i (λ a b. omega arith) ∙ t.each i
        ∙ sym (tell-without g f cs i ∙ ap (λ (b : Bool). cond b (tell g cs i) (tell g cs (suc i))) (lt-ltb i (first_place f cs) (omega arith))))
        (λ (p : at ≤ i).
        behind i p
        ∙ sym (tell-without g f cs i ∙ ap (λ (b : Bool). cond b (tell g cs i) (tell g cs (suc i))) (le-ltb i (first_place f cs) (omega arith))))
        (lt_or_ge i at)
      where
        behind : (i : ℕ) → at ≤ i → get_or after i 0 ≡ tell g cs (suc i)
        behind i p =
            ⊎_elim
            (λ (q : i < used). closing.inside i p q ∙ t.each (i + 1) ∙ ap (tell g cs) (add-one i))
            (λ (q : used ≤ i).
            closing.outside i (λ a b. omega arith) ∙ t.each i ∙ tell-past g cs i (omega arith) ∙ sym (tell-past g cs (suc i) (omega arith)))
            (lt_or_ge i used)

-- Waking

pub tells_changed : {g : Call → ℕ} {cs : List Call} {numbers : List ℕ} (h : Call → Call) (f : Call → Bool) (c : Call) (at v : ℕ) → Tells g cs numbers
    → length cs ≤ most_open → found f cs ≡ some c → at ≡ first_place f cs → v ≡ g (h c) → Tells g (changed h f cs) (set numbers at v)
tells_changed {g} {cs} {numbers} h f c at v t few e here same = record { whole = length-set numbers at v ∙ t.whole; each = each-place }
  where
    each-place : (i : ℕ) → get_or (set numbers at v) i 0 ≡ tell g (changed h f cs) i
    each-place i =
        ⊎_elim
        (λ q.
        let there : at ≡ i = here ∙ sym (eqb-true i (first_place f cs) q) in
        subst (λ (j : ℕ). get_or (set numbers at v) j 0 ≡ v) there (get_or-set_same numbers at v 0 (omega (arith, t.whole, place_inside f cs c e)))
        ∙ same ∙ sym (tell-changed g h f cs c e i ∙ ap (λ (b : Bool). cond b (g (h c)) (tell g cs i)) q))
        (λ q.
        let apart = eqb-false i (first_place f cs) q in
        get_or-set_other numbers at i v 0 (λ p. apart (p ∙ here)) ∙ t.each i
        ∙ sym (tell-changed g h f cs c e i ∙ ap (λ (b : Bool). cond b (g (h c)) (tell g cs i)) q))
        (true_or_false (eqb i (first_place f cs)))

pub tells_blind : {g : Call → ℕ} {cs : List Call} {numbers : List ℕ} (h : Call → Call) (f : Call → Bool) → ((c : Call) → g (h c) ≡ g c) → Tells g cs numbers
    → Tells g (changed h f cs) numbers
tells_blind {g} {cs} h f blind t = record { whole = t.whole; each = λ i. t.each i ∙ sym (tell_blind g h f cs blind i) }

-- Searches

-- a number that is not 0 stands at the places of the calls that have it
pub holds-passes : (g : Call → ℕ) (wanted : ℕ) (f : Call → Bool) (cs : List Call) → 0 < wanted → ((c : Call) → eqb (g c) wanted ≡ f c)
    → (i : ℕ) → eqb (tell g cs i) wanted ≡ passes_at f cs i
unfolding tell passes_at
holds-passes g wanted f [] pos same i = ne_eqb 0 wanted (λ e. omega arith)
holds-passes g wanted f (c ∷ cs) pos same zero = same c
holds-passes g wanted f (c ∷ cs) pos same (suc i) = holds-passes g wanted f cs pos same i

module _ {cs : List Call} {tickets : List ℕ} (t : Tells (λ c. c.ticket) cs tickets) (few : length cs ≤ most_open) (wanted : ℕ) (Some-number : 0 < wanted) where
  -- the first place of a ticket, or none
  pub find_is : first most_open (holds tickets wanted) ≡ cond (any (has wanted) cs) (first_place (has wanted) cs) most_open
  unfolding holds has
  find_is =
      first_same most_open (holds tickets wanted) (passes_at (has wanted) cs)
      (λ i h. ap (λ (n : ℕ). eqb n wanted) (t.each i) ∙ holds-passes (λ c. c.ticket) wanted (has wanted) cs Some-number (λ c. refl) i)
      ∙ first_passes (has wanted) cs most_open few

pub child_is : {cs : List Call} {parents : List ℕ} → Tells (λ c. c.parent) cs parents → length cs ≤ most_open → (wanted : ℕ) → 0 < wanted
    → holds-below most_open (holds parents wanted) ≡ any (is_child wanted) cs
unfolding holds is_child
child_is {cs} {parents} t few wanted Some-number =
    some_same most_open (holds parents wanted) (passes_at (is_child wanted) cs)
    (λ i h. ap (λ (n : ℕ). eqb n wanted) (t.each i) ∙ holds-passes (λ c. c.parent) wanted (is_child wanted) cs Some-number (λ c. refl) i)
    ∙ some-passes (is_child wanted) cs most_open few

-- Who is found by a ticket: at a place of the table, or nowhere
pub data FoundAt (cs : List Call) (ticket at : ℕ) : Type 0 where
  nowhere : lookup cs ticket ≡ none → at ≡ most_open → FoundAt cs ticket at
  there : (c : Call) → lookup cs ticket ≡ some c → at ≡ first_place (has ticket) cs → at < length cs → FoundAt cs ticket at

pub found_at : {cs : List Call} {tickets : List ℕ} → Tells (λ c. c.ticket) cs tickets → length cs ≤ most_open → (wanted at : ℕ) → 0 < wanted
    → at ≡ first most_open (holds tickets wanted) → FoundAt cs wanted at
found_at {cs} t few wanted at pos e = go (lookup cs wanted) refl
  where
    where_is : at ≡ cond (any (has wanted) cs) (first_place (has wanted) cs) most_open
    where_is = e ∙ find_is t few wanted pos

    go : (o : Option Call) → lookup cs wanted ≡ o → FoundAt cs wanted at
    go none q = nowhere q (where_is ∙ ap (λ (b : Bool). cond b (first_place (has wanted) cs) most_open) (any_not_found (has wanted) cs q))
    go (some c) q =
        let here : at ≡ first_place (has wanted) cs =
        where_is ∙ ap (λ (b : Bool). cond b (first_place (has wanted) cs) most_open) (any_found (has wanted) cs c q)
        in
        there c q here (omega (arith, place_inside (has wanted) cs c q))

-- the numbers of the call at a place
pub told_there : {g : Call → ℕ} {cs : List Call} {numbers : List ℕ} (f : Call → Bool) (c : Call) (at : ℕ) → Tells g cs numbers
    → found f cs ≡ some c → at ≡ first_place f cs → get_or numbers at 0 ≡ g c
told_there {g} {cs} {numbers} f c at t e here =
    ap (λ (i : ℕ). get_or numbers i 0) here ∙ t.each (first_place f cs) ∙ tell-place g f cs c e
