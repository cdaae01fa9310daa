-- A parent is found by its ticket; its key says whether it is active, and the words of the edges whether its node may call the child's. Assumes nothing.
use Prim.Native.Nat.{ℕ, ◌<◌}
use native.Mathlib.Omega.{arith}
use mathlib.Core.Path.{◌≡◌, sym, ap, ◌∙◌}
use mathlib.Core.Bool.{Bool, true, false, ◌&&◌, ◌||◌}
use mathlib.Core.List.{List}
use mathlib.Core.Option.{Option, none, some}
use lib.ListN.{length, get_or}
use lib.Dec.{eqb}
use borrow.Author.Tests.{eq-eqb, ne_eqb}
use Rattle.ids.specs.Limits.{most_open, no_ticket, nodes}
use Rattle.lists.specs.Count.{first}
use Rattle.lists.proofs.PickLaws.{found_in}
use Rattle.lists.proofs.PlaceLaws.{tell_there, member_there}
use Rattle.model.specs.Plan.{Record, has_edge}
use Rattle.model.specs.Net.{Call, has, lookup}
use Rattle.model.specs.NetRules.{parent_stands, parent_kept}
use Rattle.table.specs.Places.{holds, Searched}
use Rattle.moves.specs.Held.{parent_number, node_number, key_of}
use Rattle.moves.proofs.KeyLaws.{nobody, key_active, key_waits}
use Rattle.moves.proofs.TableLaws.{FoundAt, nowhere, there, found_at, tells_table, told_there}
use Rattle.words.specs.Words.{member}
use Rattle.links.specs.Rows.{linked}
use Rattle.rules.specs.Rules.{ParentSeen, AllParentsSeen}

-- what is asked of a parent
abbrev pub Kept : List Record → List Call → ℕ → ℕ → Bool
Kept rs cs parent node = eqb parent no_ticket || parent_stands rs (lookup cs parent) node

pub none_kept : (rs : List Record) (cs : List Call) (parent node : ℕ) → parent ≡ no_ticket → true ≡ Kept rs cs parent node
none_kept rs cs parent node e = sym (ap (λ (b : Bool). b || parent_stands rs (lookup cs parent) node) (eq-eqb parent no_ticket e))

module _ {rs : List Record} {cs : List Call} {tickets keys open-nodes : List ℕ} {used : ℕ} {edges : List ℕ} {parent node : ℕ}
    (ok : ParentSeen rs cs tickets keys open-nodes used edges parent node) (apart : parent ≡ no_ticket → ⊥) where
  pub parent_fits : Searched tickets used parent
  parent_fits =
      record { table = tells_table ok.seen.of_tickets ok.seen.counted.count ok.seen.counted.few; some_number = omega (arith, apart) }

  kept_by : (o : Option Call) → lookup cs parent ≡ o → Kept rs cs parent node ≡ parent_stands rs o node
  kept_by o e =
      ap (λ (b : Bool). b || parent_stands rs (lookup cs parent) node) (ne_eqb parent no_ticket apart) ∙ ap (λ (p : Option Call). parent_stands rs p node) e

  -- who was found, and where
  pub record Parent (at : ℕ) : Type 0 where
    pub who : Call
    pub stands : lookup cs parent ≡ some who
    pub at_inside : at < most_open
    pub key_told : get_or keys at 0 ≡ key_of rs who
    pub node_told : get_or open-nodes at 0 ≡ who.node
    pub node_small : who.node < nodes

  module _ (at : ℕ) (found : at ≡ first most_open (holds tickets parent)) where
    where_found : FoundAt cs parent at
    where_found = found_at ok.seen.of_tickets ok.seen.counted.few parent at (omega (arith, apart)) found

    pub parent_lacks : at ≡ most_open → false ≡ Kept rs cs parent node
    parent_lacks e = go where_found
      where
        go : FoundAt cs parent at → false ≡ Kept rs cs parent node
        go (nowhere q here) = sym (kept_by none q)
        go (there c q here inside) = absurd (omega (arith, ok.seen.counted.few))

    pub parent_there : (at ≡ most_open → ⊥) → Parent at
    parent_there ne = go where_found
      where
        go : FoundAt cs parent at → Parent at
        go (nowhere q here) = absurd (ne here)
        go (there c q here inside) =
            record {
              who = c;
              stands = q;
              at_inside = omega (arith, ok.seen.counted.few);
              key_told = told_there (has parent) c at ok.seen.of_keys q here;
              node_told = told_there (has parent) c at ok.seen.of_nodes q here;
              node_small = ok.seen.inside c (found_in (has parent) cs c q).0;
            }

  module _ (at : ℕ) (p : Parent at) where
    kept_is : Kept rs cs parent node ≡ (p.who.active && has_edge rs p.who.node node)
    kept_is = kept_by (some p.who) p.stands

    pub parent_waits : (get_or keys at 0 ≡ 0 → ⊥) → false ≡ Kept rs cs parent node
    parent_waits lit =
        sym (kept_is ∙ ap (λ (b : Bool). b && has_edge rs p.who.node node) (key_waits rs p.who (λ e. lit (p.key_told ∙ e))))

    pub row_inside : get_or open-nodes at 0 < nodes
    row_inside = omega (arith, p.node_told, p.node_small)

    pub parent_edge : get_or keys at 0 ≡ 0 → (r : Bool) → r ≡ member (get_or edges (get_or open-nodes at 0) 0) node → r ≡ Kept rs cs parent node
    unfolding linked
    parent_edge dark r e =
        e
        ∙ ap (λ (n : ℕ). member (get_or edges n 0) node) p.node_told
        ∙ ok.seen.edging.tells p.who.node node p.node_small ok.node_inside
        ∙ sym (kept_is ∙ ap (λ (b : Bool). b && has_edge rs p.who.node node) (key_active rs p.who (sym p.key_told ∙ dark)))

-- the parent of the call at a place
module _ {rs : List Record} {cs : List Call} {tickets parents keys open-nodes : List ℕ} {used : ℕ} {edges : List ℕ}
    (ok : AllParentsSeen rs cs tickets parents keys open-nodes used edges) (i : ℕ) (inside : i < used) where
  room : i < length cs
  room = omega (arith, ok.seen.counted.count)

  parent_is : get_or parents i 0 ≡ (get_or cs i nobody).parent
  parent_is = ok.of_parents.each i ∙ tell_there parent_number cs i nobody room

  node_is : get_or open-nodes i 0 ≡ (get_or cs i nobody).node
  node_is = ok.seen.of_nodes.each i ∙ tell_there node_number cs i nobody room

  pub parent_seen : ParentSeen rs cs tickets keys open-nodes used edges (get_or parents i 0) (get_or open-nodes i 0)
  parent_seen =
      record { seen = ok.seen; node_inside = omega (arith, node_is, ok.seen.inside (get_or cs i nobody) (member_there cs i nobody room)) }

  pub call_kept : (r : Bool) → r ≡ Kept rs cs (get_or parents i 0) (get_or open-nodes i 0) → parent_kept rs cs (get_or cs i nobody) ≡ r
  unfolding parent_kept
  call_kept r e = ap (λ (p : ℕ). Kept rs cs p (get_or cs i nobody).node) (sym parent_is) ∙ ap (Kept rs cs (get_or parents i 0)) (sym node_is) ∙ sym e
