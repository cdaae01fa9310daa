-- How the rows of the call edges are filled: one node more in a row is one pair more, and every other pair is as it was. Assumes nothing.
use Prim.Native.Nat.{ℕ, ◌+◌, ◌<◌, ◌≤◌, min}
use native.Mathlib.Numerals.{add-one}
use native.Mathlib.Omega.{arith}
use mathlib.Core.Path.{◌≡◌, refl, sym, ap, ◌∙◌}
use mathlib.Core.Logic.{◌⊎◌, inl, inr, ⊎_elim}
use mathlib.Core.Bool.{Bool, true, false, ◌&&◌, ◌||◌}
use mathlib.Core.List.{List, []}
use lib.Dec.{eqb}
use lib.ListN.{length, get_or, set, replicate, get_or-replicate}
use lib.Seq.{get_or-set_same, get_or-set_other}
use borrow.Author.Tests.{eqb-true, eqb-false, ne_eqb}
use Rattle.ids.specs.Limits.{nodes, most_edges}
use Rattle.lists.proofs.CountLaws.{lt_or_ge, true_or_false}
use Rattle.model.specs.Plan.{has_edge}
use Rattle.model.specs.PlanValue.{pair_at, edge_records, records_of}
use Rattle.model.specs.declared.Edge.{Edge}
use Rattle.model.specs.declared.Plan.{Plan}
use Rattle.model.proofs.HeldLaws.{calls_of}
use Rattle.words.specs.Words.{member, inserted}
use Rattle.words.proofs.WordLaws.{member_zero, member-inserted, inserted-past}
use Rattle.links.specs.Rows.{linked, RowsTell}

-- One pair more

or_turned : (a b : Bool) → (a || b) ≡ (b || a)
or_turned true true = refl
or_turned true false = refl
or_turned false true = refl
or_turned false false = refl

-- a row with a number more: where that is no node, no node is more
row_more : (word to m : ℕ) → m < nodes → member (inserted word to) m ≡ (eqb to m || member word m)
row_more word to m hm =
    ⊎_elim
    (λ (p : to < nodes). member-inserted word to m p ∙ or_turned (member word m) (eqb to m))
    (λ (p : nodes ≤ to). rw (ne_eqb to m (λ e. omega arith)) (ap (λ (w : ℕ). member w m) (sym (inserted-past word to p))))
    (lt_or_ge to nodes)

pub link_pair : (rows : List ℕ) (from to word : ℕ) → word ≡ inserted (get_or rows from 0) to → length rows ≡ nodes → from < nodes
    → RowsTell (set rows from word) (λ n m. (eqb from n && eqb to m) || linked rows n m)
unfolding linked
link_pair rows from to word more long inside n m hn hm = go (true_or_false (eqb from n))
  where
    go : (eqb from n ≡ true) ⊎ (eqb from n ≡ false) → member (get_or (set rows from word) n 0) m ≡ ((eqb from n && eqb to m) || member (get_or rows n 0) m)
    go (inl e) =
        let same = eqb-true from n e in
        rw e
        (ap (λ (k : ℕ). member (get_or (set rows from word) k 0) m) (sym same)
        ∙ ap (λ (w : ℕ). member w m) (get_or-set_same rows from word 0 (omega (arith, long)) ∙ more)
        ∙ row_more (get_or rows from 0) to m hm
        ∙ ap (λ (k : ℕ). eqb to m || member (get_or rows k 0) m) same)
    go (inr e) = rw e (ap (λ (w : ℕ). member w m) (get_or-set_other rows from n word 0 (λ q. eqb-false from n e (omega (arith, q)))))

-- The call edges

pub no_links : (rows : List ℕ) (ps : List Edge) → rows ≡ replicate nodes 0 → RowsTell rows (has_edge (edge_records ps 0 []))
unfolding has_edge linked
no_links rows ps e n m hn hm =
    ap (λ (l : List ℕ). member (get_or l n 0) m) e ∙ ap (λ (w : ℕ). member w m) (get_or-replicate nodes n 0 0 hn) ∙ member_zero m

pub links_more : (rows next : List ℕ) (ps : List Edge) (i : ℕ) → RowsTell rows (has_edge (edge_records ps i []))
    → RowsTell next (λ n m. (eqb (pair_at ps i).caller.0 n && eqb (pair_at ps i).callee.0 m) || linked rows n m) → RowsTell next (has_edge (edge_records ps (i + 1) []))
unfolding has_edge
links_more rows next ps i so_far turn n m hn hm =
    rw (add-one i)
    (turn n m hn hm ∙ ap (λ (t : Bool). (eqb (pair_at ps i).caller.0 n && eqb (pair_at ps i).callee.0 m) || t) (so_far n m hn hm))

pub links_all : (p : Plan) (rows : List ℕ) (i : ℕ) → i ≡ min p.edges most_edges → RowsTell rows (has_edge (edge_records p.pairs i []))
    → RowsTell rows (has_edge (records_of p))
links_all p rows i e so n m hn hm =
    so n m hn hm ∙ ap (λ (k : ℕ). has_edge (edge_records p.pairs k []) n m) e ∙ sym (calls_of p n m)
