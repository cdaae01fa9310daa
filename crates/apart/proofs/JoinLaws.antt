-- The table that is put together from the arrays is the one value of the calls that they hold: place by place the call there, and behind the last one a
-- spare place. Assumes nothing.
use Prim.Native.Nat.{ℕ, zero, suc, ◌+◌, ◌*◌, ◌≤◌, ◌<◌}
use native.Mathlib.Omega.{arith}
use native.Mathlib.Nat.{not-suc-le-zero, le_of_suc-le-suc}
use mathlib.Core.Path.{◌≡◌, refl, sym, ap, ◌∙◌}
use mathlib.Core.Logic.{⊎_elim}
use mathlib.Core.Bool.{Bool, true, false, cond}
use mathlib.Core.List.{List, [], ◌∷◌}
use lib.ListN.{length, get_or, set, replicate, length-set, length-replicate, get_or-replicate}
use lib.Seq.{get_or-set_same, get_or-set_other}
use lib.Dec.{eqb}
use borrow.Author.Tests.{eq-eqb, ne_eqb}
use Rattle.ids.specs.Limits.{most_threads, most_open}
use Rattle.lists.specs.Pick.{tell, passes_at}
use Rattle.lists.proofs.CountLaws.{lt_or_ge}
use Rattle.lists.proofs.TellLaws.{tell-past, passes-past}
use Rattle.lists.proofs.TabledLaws.{tabled-is}
use Rattle.model.specs.Plan.{Record}
use Rattle.model.specs.Net.{Call, site_of, level_of}
use Rattle.moves.specs.Held.{key_of}
use Rattle.value.specs.View.{spare}
use Rattle.value.specs.Handed.{holds_thread, call_at, table_of}
use Rattle.value.specs.declared.Call.{Call as CallValue}
use Rattle.apart.specs.Apart.{Joining}

abbrev call_value : ℕ → ℕ → ℕ → Bool → CallValue
call_value ticket parent node active =
    record { ticket = record { 0 = ticket }; parent = record { 0 = parent }; node = record { 0 = node }; active = active }

same_call : {t u p q n m : ℕ} {a b : Bool} → t ≡ u → p ≡ q → n ≡ m → a ≡ b → call_value t p n a ≡ call_value u q m b
same_call e f g h = cc

-- the call at a place of the arrays
abbrev pub call_in : List ℕ → List ℕ → List ℕ → List ℕ → ℕ → CallValue
call_in tickets parents keys nodes j = call_value (get_or tickets j 0) (get_or parents j 0) (get_or nodes j 0) (eqb (get_or keys j 0) 0)

-- the places below i are done
pub record JoinedBelow (tickets parents keys nodes : List ℕ) (calls : List CallValue) (i : ℕ) : Type 0 where
  pub whole : length calls ≡ most_open
  pub done : (j : ℕ) → j < i → get_or calls j spare ≡ call_in tickets parents keys nodes j
  pub rest : (j : ℕ) → i ≤ j → j < most_open → get_or calls j spare ≡ spare

-- a key of 0 is that of an active call
active_told : (rs : List Record) (cs : List Call) (i : ℕ) → i < length cs → eqb (tell (key_of rs) cs i) 0 ≡ passes_at holds_thread cs i
unfolding tell passes_at key_of
active_told rs [] i h = absurd (not-suc-le-zero h)
active_told rs (c ∷ cs) zero h = go c.active
  where
    key : ℕ
    key = most_threads * site_of rs c.node + level_of rs c.node

    go : (a : Bool) → eqb (cond a 0 (key + 1)) 0 ≡ a
    go true = eq-eqb 0 0 refl
    go false = ne_eqb (key + 1) 0 (λ e. omega arith)
active_told rs (c ∷ cs) (suc i) h = active_told rs cs i (le_of_suc-le-suc h)

module _ {tickets parents keys nodes : List ℕ} where
  pub joined_none : JoinedBelow tickets parents keys nodes (replicate most_open spare) 0
  joined_none =
      record { whole = length-replicate most_open spare; done = λ j l. absurd (not-suc-le-zero l); rest = λ j l m. get_or-replicate most_open j spare spare m }

  pub joined_more : {calls : List CallValue} (i : ℕ) → i < most_open → JoinedBelow tickets parents keys nodes calls i
      → JoinedBelow tickets parents keys nodes (set calls i (call_in tickets parents keys nodes i)) (i + 1)
  joined_more {calls} i room h =
      record {
        whole = length-set calls i here ∙ h.whole;
        done = λ j l.
            ⊎_elim
            (λ (less : j < i). get_or-set_other calls i j here spare (λ e. omega arith) ∙ h.done j less)
            (λ (more : i ≤ j).
            let e : j ≡ i = omega arith in
            ap (λ (k : ℕ). get_or (set calls i here) k spare) e ∙ get_or-set_same calls i here spare (omega (arith, h.whole))
            ∙ ap (call_in tickets parents keys nodes) (sym e))
            (lt_or_ge j i);
        rest = λ j l m. get_or-set_other calls i j here spare (λ e. omega arith) ∙ h.rest j (omega arith) m;
      }
    where
      here : CallValue
      here = call_in tickets parents keys nodes i

  pub joined_table : {calls : List CallValue} (used i : ℕ) → used ≤ i → i ≤ used → JoinedBelow tickets parents keys nodes calls i
      → (rs : List Record) (cs : List Call) → Joining rs cs tickets parents keys nodes used → calls ≡ table_of cs
  unfolding table_of call_at
  joined_table {calls} used i low high h rs cs ok = tabled-is most_open (call_at cs) calls spare h.whole at
    where
      at : (j : ℕ) → j < most_open → get_or calls j spare ≡ call_at cs j
      at j l =
          ⊎_elim
          (λ (less : j < used).
          h.done j (omega arith)
          ∙ same_call (ok.of_tickets.each j) (ok.of_parents.each j) (ok.of_nodes.each j)
          (ap (λ (n : ℕ). eqb n 0) (ok.of_keys.each j) ∙ active_told rs cs j (omega (arith, ok.count))))
          (λ (more : used ≤ j).
          let past : length cs ≤ j = omega (arith, ok.count) in
          h.rest j (omega arith) l
          ∙ sym (same_call (tell-past (λ c. c.ticket) cs j past) (tell-past (λ c. c.parent) cs j past) (tell-past (λ c. c.node) cs j past)
          (passes-past holds_thread cs j past)))
          (lt_or_ge j used)
