-- How what is reached from some nodes is gathered: of what is found each node has been looked at, so that its row is found too, or is still to be. In the end
-- nothing is left to be looked at, and no path leads out of what is found. Each turn looks at one node, and what it finds is in neither set before, so that
-- what is not found and what is to be looked at, as one sum, falls. Assumes nothing.
use Prim.Native.Nat.{zero-le, ℕ, ◌+◌, ◌-◌, ◌^◌, ◌<◌, ◌≤◌}
use native.Mathlib.Nat.{lt_trans}
use native.Mathlib.Omega.{arith}
use mathlib.Core.Path.{◌≡◌, refl, sym, ap, ◌∙◌, subst}
use mathlib.Core.Logic.{◌↔◌, ◌⊎◌, inl, inr, ⊎_elim}
use mathlib.Core.Bool.{Bool, true, false, not, ◌&&◌}
use mathlib.Core.List.{List}
use lib.Bits.{bit_or, or_add_and, or_disjoint, or_lt}
use lib.Dec.{T}
use lib.ListN.{length, get_or, get_or-eq_default}
use Rattle.std.specs.Bool.{MatchBool}
use Rattle.std.specs.List.{range_with_len, AllWithin, HoldsAt}
use Rattle.std.proofs.lemmas.List.FromFn.{get_or-range_with_len}
use Rattle.ids.specs.Limits.{nodes}
use Rattle.lists.proofs.CountLaws.{never_both, lt_or_ge, same_test}
use Rattle.model.specs.Graph.{Reach, stay, go}
use Rattle.model.proofs.GraphLaws.{yes, is_true, reach_join}
use Rattle.words.specs.Words.{member, least, without_least, difference}
use Rattle.words.proofs.WordLaws.{member_zero, member-difference, members_one, apart_zero}
use Rattle.words.proofs.LeastLaws.{least_inside, without-less}
use Rattle.links.specs.Rows.{linked}
use Rattle.graph.specs.Reached.{ReachedFrom, ClosedBack}
use Rattle.graph.proofs.SetLaws.{in_left, in_right, in_either, in_difference, difference_small, other_or_difference, without_in, least_or_without}

-- The loop's invariant
pub record Reaching (rows : List ℕ) (from found todo : ℕ) : Type 0 where
  pub begun : (n : ℕ) → T (member from n) → T (member found n)
  pub sound : (m : ℕ) → T (member found m) → (n : ℕ) × T (member from n) × Reach (linked rows) n m
  pub closed : (n m : ℕ) → T (member found n) → T (linked rows n m) → T (member found m) ⊎ T (member todo n)
  pub inside : (n : ℕ) → T (member todo n) → T (member found n)
  pub found_small : found < 2 ^ nodes
  pub todo_small : todo < 2 ^ nodes

pub reaching_none : (rows : List ℕ) (from : ℕ) → from < 2 ^ nodes → Reaching rows from from from
reaching_none rows from small =
    record {
      begun = λ n h. h;
      sound = λ m h. (m, h, stay);
      closed = λ n m h e. inr h;
      inside = λ n h. h;
      found_small = small;
      todo_small = small;
    }

-- the node that is looked at next is one
pub next_inside : {rows : List ℕ} {from found todo next : ℕ} → next ≡ least todo → (todo ≡ 0 → ⊥) → Reaching rows from found todo → next < nodes
next_inside {todo = todo} e some so_far = omega (arith, (least_inside todo so_far.todo_small (omega arith)).0)

-- One turn: the least node that is to be looked at, and what its row has that was not found
module _ (rows : List ℕ) (from found todo : ℕ) (some : 0 < todo) (row_small : get_or rows (least todo) 0 < 2 ^ nodes)
    (so_far : Reaching rows from found todo) where
  abbrev row : ℕ
  row = get_or rows (least todo) 0

  abbrev fresh : ℕ
  fresh = difference row found

  fresh_small : fresh < 2 ^ nodes
  fresh_small = difference_small row found row_small so_far.found_small

  -- what is fresh is one step behind what was found
  new_sound : (m : ℕ) → T (member fresh m) → (n : ℕ) × T (member from n) × Reach (linked rows) n m
  unfolding linked
  new_sound m h =
      let there = so_far.sound (least todo) (so_far.inside (least todo) (yes (least_inside todo so_far.todo_small some).1)) in
      (there.0, there.1, reach_join there.2 (go (in_difference row found row_small so_far.found_small m h).0 stay))

  -- the row of the node that is looked at is found now
  now_closed : (n m : ℕ) → T (linked rows n m) → T (member found m) ⊎ T (member todo n)
      → T (member (bit_or found fresh) m) ⊎ T (member (bit_or (without_least todo) fresh) n)
  unfolding linked
  now_closed n m e (inl h) = inl (in_left found fresh m h)
  now_closed n m e (inr h) =
      ⊎_elim
      (λ (here : least todo ≡ n).
      inl
      (⊎_elim (in_left found fresh m) (in_right found fresh m)
      (other_or_difference row found row_small so_far.found_small m (subst (λ (k : ℕ). T (member (get_or rows k 0) m)) (sym here) e))))
      (λ left. inr (in_left (without_least todo) fresh n left))
      (least_or_without todo so_far.todo_small n h)

  reaching_more : Reaching rows from (bit_or found fresh) (bit_or (without_least todo) fresh)
  reaching_more =
      record {
        begun = λ n h. in_left found fresh n (so_far.begun n h);
        sound = λ m h. ⊎_elim (so_far.sound m) (new_sound m) (in_either found fresh m h);
        closed =
            λ n m h e.
            ⊎_elim
            (λ old. now_closed n m e (so_far.closed n m old e))
            (λ new. inr (in_right (without_least todo) fresh n new))
            (in_either found fresh n h);
        inside =
            λ n h.
            ⊎_elim
            (λ old. in_left found fresh n (so_far.inside n (without_in todo so_far.todo_small n old)))
            (in_right found fresh n)
            (in_either (without_least todo) fresh n h);
        found_small = or_lt nodes found fresh so_far.found_small fresh_small;
        todo_small = or_lt nodes (without_least todo) fresh (lt_trans (without-less todo some) so_far.todo_small) fresh_small;
      }

  -- the measure falls
  reaching_less : (2 ^ nodes - bit_or found fresh) + bit_or (without_least todo) fresh < (2 ^ nodes - found) + todo
  reaching_less =
      omega (
        arith,
        or_disjoint found fresh (apart_zero found fresh so_far.found_small apart),
        reaching_more.found_small,
        or_add_and (without_least todo) fresh,
        without-less todo some,
      )
    where
      never : (a b : Bool) → (b && (a && not b)) ≡ false
      never true true = refl
      never false true = refl
      never a false = refl

      apart : (n : ℕ) → n < nodes → (member found n && member fresh n) ≡ false
      apart n h =
          ap (λ (b : Bool). member found n && b) (member-difference row found n so_far.found_small h) ∙ never (member row n) (member found n)

-- the same of what the code has at the end of a turn
pub record OneTurn (rows : List ℕ) (found todo next fresh rest : ℕ) : Type 0 where
  pub next_is : next ≡ least todo
  pub fresh_is : fresh ≡ difference (get_or rows next 0) found
  pub rest_is : rest ≡ without_least todo
  pub some : 0 < todo
  pub row_small : get_or rows next 0 < 2 ^ nodes

module _ {rows : List ℕ} {from found todo next fresh rest : ℕ} (turn : OneTurn rows found todo next fresh rest) (so_far : Reaching rows from found todo) where
  least-row : get_or rows (least todo) 0 < 2 ^ nodes
  least-row = subst (λ (k : ℕ). get_or rows k 0 < 2 ^ nodes) turn.next_is turn.row_small

  fresh_least : fresh ≡ difference (get_or rows (least todo) 0) found
  fresh_least = turn.fresh_is ∙ ap (λ (k : ℕ). difference (get_or rows k 0) found) turn.next_is

  pub turn_more : Reaching rows from (bit_or found fresh) (bit_or rest fresh)
  turn_more = rw (turn.rest_is, fresh_least) (reaching_more rows from found todo turn.some least-row so_far)

  pub turn_less : (2 ^ nodes - bit_or found fresh) + bit_or rest fresh < (2 ^ nodes - found) + todo
  turn_less = rw (turn.rest_is, fresh_least) (reaching_less rows from found todo turn.some least-row so_far)

-- nothing is left to be looked at
pub reaching_all : (rows : List ℕ) (from found todo : ℕ) → todo ≡ 0 → Reaching rows from found todo → ReachedFrom rows from found
reaching_all rows from found todo none so = record { sound = so.sound; complete = λ n m h p. follow n m (so.begun n h) p }
  where
    empty : (n : ℕ) → T (member todo n) → ⊥
    empty n h = subst T (ap (λ (w : ℕ). member w n) none ∙ member_zero n) h

    follow : (n m : ℕ) → T (member found n) → Reach (linked rows) n m → T (member found m)
    follow n m h stay = h
    follow n m h (go {m = k} e p) = follow k m (⊎_elim (λ there. there) (λ left. absurd (empty n left)) (so.closed n k h e)) p

-- what is reached is determined
pub reached_one : (rows : List ℕ) (from a b : ℕ) → a < 2 ^ nodes → b < 2 ^ nodes → ReachedFrom rows from a → ReachedFrom rows from b → a ≡ b
reached_one rows from a b ha hb one two =
    members_one nodes a b ha hb
    (λ n h. same_test (member a n) (member b n) (λ e. is_true (member b n) (over one two n (yes e))) (λ e. is_true (member a n) (over two one n (yes e))))
  where
    over : {x y : ℕ} → ReachedFrom rows from x → ReachedFrom rows from y → (n : ℕ) → T (member x n) → T (member y n)
    over have want n h = let path = have.sound n h in want.complete path.0 n path.1 path.2

-- Edges that are closed backwards

-- no path leads from the end of an edge of n back to n
abbrev pub NotClosed : List ℕ → List ℕ → ℕ → Type 0
NotClosed edges paths n = (m : ℕ) → T (linked edges n m) → Reach (linked paths) m n → ⊥

module _ (edges paths : List ℕ) (n word : ℕ) (all : ReachedFrom paths (get_or edges n 0) word) where
  pub closed_here : true ≡ member word n → ClosedBack edges paths
  unfolding linked
  closed_here e = let path = all.sound n (yes (sym e)) in (n, path.0, path.1, path.2)

  pub open_here : false ≡ member word n → NotClosed edges paths n
  unfolding linked
  open_here e m edge path = subst T (sym e) (all.complete m n edge path)

-- past the rows there is no edge
pub none_closed : (edges paths : List ℕ) → length edges ≡ nodes → ((n : ℕ) → n < nodes → NotClosed edges paths n) → ClosedBack edges paths → ⊥
unfolding linked
none_closed edges paths long each (n, m, edge, path) =
    ⊎_elim
    (λ (p : n < nodes). each n p m edge path)
    (λ (p : nodes ≤ n).
    subst T (ap (λ (w : ℕ). member w m) (get_or-eq_default edges 0 {n = n} (omega (arith, long))) ∙ member_zero m) edge)
    (lt_or_ge n nodes)

-- each node has been asked
pub each_asked : (edges paths : List ℕ) → length edges ≡ nodes → (answer : Bool)
    → MatchBool answer ((k : ℕ) × (k < length (range_with_len 0 nodes)) × HoldsAt (λ (n : ℕ). ClosedBack edges paths) (range_with_len 0 nodes) k)
    (AllWithin (NotClosed edges paths) (range_with_len 0 nodes) 0 (length (range_with_len 0 nodes)))
    → (answer ≡ true) ↔ ClosedBack edges paths
each_asked edges paths long true found = ((λ e. found.2 0), (λ w. refl))
each_asked edges paths long false none = (
  (λ e. absurd (never_both e refl)),
  (λ w. absurd (none_closed edges paths long each w)),
)
  where
    each : (n : ℕ) → n < nodes → NotClosed edges paths n
    each n h =
        let place : get_or (range_with_len 0 nodes) n 0 ≡ n = omega (arith, get_or-range_with_len 0 nodes n 0 h) in
        subst (NotClosed edges paths) place (none n 0 zero-le h)
