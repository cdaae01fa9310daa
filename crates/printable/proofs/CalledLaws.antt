-- How the nodes that a set calls are gathered: those of the set that have been looked at are no longer to be, and what they call is in. Assumes nothing.
use Prim.Native.Nat.{ℕ, ◌^◌, ◌<◌}
use native.Mathlib.Nat.{lt_trans}
use native.Mathlib.Omega.{arith}
use mathlib.Core.Path.{◌≡◌, sym, ap, ◌∙◌, subst}
use mathlib.Core.Logic.{◌⊎◌, inl, inr, ⊎_elim}
use mathlib.Core.List.{List}
use lib.Bits.{bit_or}
use lib.Dec.{T}
use lib.ListN.{get_or}
use Rattle.ids.specs.Limits.{nodes}
use Rattle.model.proofs.GraphLaws.{yes}
use Rattle.words.specs.Words.{member, least, without_least}
use Rattle.words.proofs.WordLaws.{member_zero}
use Rattle.words.proofs.LeastLaws.{least_inside, without-less}
use Rattle.links.specs.Rows.{linked}
use Rattle.graph.proofs.SetLaws.{in_left, in_right, in_either, without_in, least_or_without}
use Rattle.printable.specs.Filling.{Called}

-- the loop's invariant
pub record Calling (calls : List ℕ) (set all todo : ℕ) : Type 0 where
  pub sound : (m : ℕ) → T (member all m) → (n : ℕ) × T (member set n) × T (linked calls n m)
  pub done : (n m : ℕ) → T (member set n) → T (linked calls n m) → T (member all m) ⊎ T (member todo n)
  pub inside : (n : ℕ) → T (member todo n) → T (member set n)
  pub todo_small : todo < 2 ^ nodes

pub calling_none : (calls : List ℕ) (set : ℕ) → set < 2 ^ nodes → Calling calls set 0 set
calling_none calls set small =
    record { sound = λ m h. absurd (subst T (member_zero m) h); done = λ n m h e. inr h; inside = λ n h. h; todo_small = small }

-- the node that is looked at next is one
pub next_inside : {calls : List ℕ} {set all todo next : ℕ} → next ≡ least todo → (todo ≡ 0 → ⊥) → Calling calls set all todo → next < nodes
next_inside {todo = todo} e some so_far = omega (arith, (least_inside todo so_far.todo_small (omega arith)).0)

-- one turn, of what the code has: the least node that is to be looked at, and the others
pub calling_more : {calls : List ℕ} {set all todo next rest : ℕ} → next ≡ least todo → rest ≡ without_least todo → 0 < todo → Calling calls set all todo
    → Calling calls set (bit_or all (get_or calls next 0)) rest
unfolding linked
calling_more {calls} {set} {all} {todo} {next} {rest} next_is rest_is some so_far =
    record {
      sound = λ m h. ⊎_elim (so_far.sound m) (λ e. (next, so_far.inside next here, e)) (in_either all row m h);
      done = λ n m h e. ⊎_elim (λ old. inl (in_left all row m old)) (looked n m e) (so_far.done n m h e);
      inside = λ n h. so_far.inside n (without_in todo so_far.todo_small n (subst (λ (w : ℕ). T (member w n)) rest_is h));
      todo_small = subst (λ (w : ℕ). w < 2 ^ nodes) (sym rest_is) (lt_trans (without-less todo some) so_far.todo_small);
    }
  where
    row : ℕ
    row = get_or calls next 0

    here : T (member todo next)
    here = subst (λ (k : ℕ). T (member todo k)) (sym next_is) (yes (least_inside todo so_far.todo_small some).1)

    looked : (n m : ℕ) → T (member (get_or calls n 0) m) → T (member todo n) → T (member (bit_or all row) m) ⊎ T (member rest n)
    looked n m e h =
        ⊎_elim
        (λ (same : least todo ≡ n). inl (in_right all row m (subst (λ (k : ℕ). T (member (get_or calls k 0) m)) (sym (next_is ∙ same)) e)))
        (λ left. inr (subst (λ (w : ℕ). T (member w n)) (sym rest_is) left))
        (least_or_without todo so_far.todo_small n h)

-- nothing is left to be looked at
pub calling_all : {calls : List ℕ} {set all todo : ℕ} → todo ≡ 0 → Calling calls set all todo → Called calls set all
calling_all {calls} {set} {all} {todo} none so =
    record {
      sound = so.sound;
      complete =
          λ n m h e.
          ⊎_elim
          (λ there. there)
          (λ left. absurd (subst T (ap (λ (w : ℕ). member w n) none ∙ member_zero n) left))
          (so.done n m h e);
    }
