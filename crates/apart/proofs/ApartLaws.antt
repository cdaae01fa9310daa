-- One call more of a table, in each array. Assumes nothing.
use Prim.Native.Nat.{ℕ, ◌+◌, ◌<◌}
use native.Mathlib.Omega.{arith}
use mathlib.Core.Path.{◌≡◌, sym, ap, subst, ◌∙◌}
use mathlib.Core.List.{List, [], ◌∷◌, ◌++◌}
use lib.ListN.{length, get_or, set}
use Rattle.ids.specs.Limits.{most_open}
use Rattle.lists.proofs.TabledLaws.{length-tabled, tabled_more}
use Rattle.model.specs.Net.{Call}
use Rattle.moves.specs.Held.{Tells, ticket_number, parent_number, node_number}
use Rattle.moves.proofs.TableLaws.{tells_opened}
use Rattle.value.specs.View.{call_of, spare, first_calls}
use Rattle.value.specs.declared.Call.{Call as CallValue}
use Rattle.value.specs.declared.Net.{Net}
use Rattle.table.specs.Places.{Padded}
use Rattle.table.specs.declared.Table.{Table}
use Rattle.lists.proofs.TellLaws.{tell-past}
use Rattle.apart.specs.Apart.{Holding, Numbers, Beside}

module _ (calls : List CallValue) (n : ℕ) where
  pub first-length : length (first_calls calls n) ≡ n
  unfolding first_calls
  first-length = length-tabled n (λ i. call_of (get_or calls i spare))

  pub first_more : first_calls calls (n + 1) ≡ first_calls calls n ++ (call_of (get_or calls n spare) ∷ [])
  unfolding first_calls
  first_more = tabled_more n (λ i. call_of (get_or calls i spare))

  -- an array with the number of one call more
  pub tells_next : {g : Call → ℕ} {numbers : List ℕ} (v : ℕ) → n < most_open → Tells g (first_calls calls n) numbers → v ≡ g (call_of (get_or calls n spare))
      → Tells g (first_calls calls (n + 1)) (set numbers n v)
  tells_next {g} {numbers} v room t e =
      subst (λ (cs : List Call). Tells g cs (set numbers n v)) (sym first_more)
      (tells_opened (call_of (get_or calls n spare)) n v t (sym first-length) (subst (λ (m : ℕ). m < most_open) (sym first-length) room) e)

  pub holding_more : {tickets parents nodes : List ℕ} (call : CallValue) → n < most_open → call ≡ get_or calls n spare → Holding calls n tickets parents nodes
      → Holding calls (n + 1) (set tickets n call.ticket.0) (set parents n call.parent.0) (set nodes n call.node.0)
  holding_more call room e h =
      record {
        of_tickets = tells_next {g = ticket_number} call.ticket.0 room h.of_tickets (ap (λ (c : CallValue). c.ticket.0) e);
        of_parents = tells_next {g = parent_number} call.parent.0 room h.of_parents (ap (λ (c : CallValue). c.parent.0) e);
        of_nodes = tells_next {g = node_number} call.node.0 room h.of_nodes (ap (λ (c : CallValue). c.node.0) e);
      }

-- zeros tell no calls
pub nothing_told : {g : Call → ℕ} (calls : List CallValue) {numbers : List ℕ} {used : ℕ} → Padded numbers used → used ≡ 0 → Tells g (first_calls calls 0) numbers
nothing_told {g} calls {numbers} {used} p none =
    record { whole = p.whole; each = λ i. p.zeros i (omega arith) ∙ sym (tell-past g (first_calls calls 0) i (omega (arith, first-length calls 0))) }

-- beside other keys stand the same numbers
pub numbers_beside : (net : Net) {old new : Table} → Beside old new → Numbers net old.tickets old.parents old.nodes → Numbers net new.tickets new.parents new.nodes
numbers_beside net same held =
    record {
      of_tickets = subst (Tells ticket_number (first_calls net.calls net.used)) (sym same.same_tickets) held.of_tickets;
      of_parents = subst (Tells parent_number (first_calls net.calls net.used)) (sym same.same_parents) held.of_parents;
      of_nodes = subst (Tells node_number (first_calls net.calls net.used)) (sym same.same_nodes) held.of_nodes;
    }
