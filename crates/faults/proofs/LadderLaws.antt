-- The ladders of a command's tests, rung by rung: each number of the order where its test fails and those before it pass, in terms of who is found by a ticket.
-- Assumes nothing.
use Prim.Native.Nat.{ℕ, ◌≤◌, ◌<◌}
use native.Mathlib.Omega.{arith}
use mathlib.Core.Path.{◌≡◌, refl, sym, ap, ◌∙◌}
use mathlib.Core.Logic.{⊎_elim}
use mathlib.Core.Bool.{Bool, true, false, not}
use mathlib.Core.List.{List}
use mathlib.Core.Option.{Option as Maybe, none, some}
use Rattle.std.specs.Prelude.{Option, Some, None}
use Rattle.std.specs.Option.{is_some}
use lib.ListN.{length, get_or, get_or-eq_default}
use lib.Dec.{eqb}
use borrow.Author.Tests.{eq-eqb, ne_eqb, lt-ltb, le-ltb}
use Rattle.ids.specs.Limits.{no_ticket, most_open, nodes}
use Rattle.lists.specs.Count.{first, some as holds-below}
use Rattle.lists.proofs.CountLaws.{never_both, lt_or_ge}
use Rattle.lists.proofs.PickLaws.{count-some, found_in}
use Rattle.model.specs.Plan.{Record, has_edge}
use Rattle.model.specs.PlanValue.{nowhere as nowhere-place, somewhere}
use Rattle.model.specs.Net.{Call, Core, has_node, has, lookup, has_child}
use Rattle.model.specs.Command.{start, call, return, take_back, fault}
use Rattle.record.specs.Step.{listed_node}
use Rattle.table.specs.Places.{holds, Searched, Found}
use Rattle.moves.specs.Held.{key_of}
use Rattle.moves.proofs.KeyLaws.{key_active, key_waits}
use Rattle.moves.proofs.TableLaws.{FoundAt, nowhere, there, found_at, tells_table, told_there, child_is}
use Rattle.words.specs.Words.{member}
use Rattle.links.specs.Rows.{linked}
use Rattle.faults.specs.Seen.{Listing, Edging, Ticketed, StandsAt, OpenAt, CallSeen, ReturnSeen}

module _ {rs : List Record} {cs : List Call} {tickets : List ℕ} {used : ℕ} (seen : Ticketed rs cs tickets used) where
  pub find_fits : (ticket : ℕ) → (ticket ≡ no_ticket → ⊥) → Searched tickets used ticket
  find_fits ticket apart = record { table = tells_table seen.of_tickets seen.count seen.firm.few; some_number = omega (arith, apart) }

  -- no ticket is not open
  pub nobody_0 : lookup cs no_ticket ≡ none
  unfolding has
  nobody_0 = go (lookup cs no_ticket) refl
    where
      go : (o : Maybe Call) → lookup cs no_ticket ≡ o → o ≡ none
      go none e = refl
      go (some c) e =
          let w = found_in (has no_ticket) cs c e in absurd (omega (arith, count-some (has no_ticket) cs c w.0 w.1, seen.firm.none_0))

  module _ (ticket at : ℕ) (apart : ticket ≡ no_ticket → ⊥) (at_is : at ≡ first most_open (holds tickets ticket)) where
    where_found : FoundAt cs ticket at
    where_found = found_at seen.of_tickets seen.firm.few ticket at (omega (arith, apart)) at_is

    pub not_there : at ≡ most_open → lookup cs ticket ≡ none
    not_there e = go where_found
      where
        go : FoundAt cs ticket at → lookup cs ticket ≡ none
        go (nowhere q r) = q
        go (there c q r inside) = absurd (omega (arith, seen.firm.few))

    pub is_there : at < most_open → StandsAt cs ticket at
    is_there some-place = go where_found
      where
        go : FoundAt cs ticket at → StandsAt cs ticket at
        go (nowhere q r) = absurd (omega arith)
        go (there c q r inside) = record { who = c; found = q; here = r; inside = some-place }

  -- what the search answers, of a ticket that is not the word for none
  pub open-at : (ticket : ℕ) → (ticket ≡ no_ticket → ⊥) → (o : Option ℕ) → Found o (holds tickets ticket) → OpenAt cs ticket o
  open-at ticket apart None w = not_there ticket most_open apart w refl
  open-at ticket apart (Some at) w = is_there ticket at apart w.0 w.1

  -- an open call's ticket is not that word
  pub stands_apart : {ticket at : ℕ} → StandsAt cs ticket at → ticket ≡ no_ticket → ⊥
  stands_apart {ticket} w e =
      let gone : lookup cs ticket ≡ none = ap (lookup cs) e ∙ nobody_0 in
      let both = sym w.found ∙ gone in
      cc

-- an answer is some place exactly where the ticket is open
pub open_who : (cs : List Call) (ticket : ℕ) (o : Option ℕ) → OpenAt cs ticket o → is_some o ≡ true → (who : Call) × (lookup cs ticket ≡ some who)
open_who cs ticket None w e = absurd (never_both e refl)
open_who cs ticket (Some at) w e = (w.who, w.found)

pub open_none : (cs : List Call) (ticket : ℕ) (o : Option ℕ) → OpenAt cs ticket o → is_some o ≡ false → lookup cs ticket ≡ none
open_none cs ticket None w e = w
open_none cs ticket (Some at) w e = absurd (never_both {b = true} refl e)

-- Rungs

module _ (rs : List Record) (cs : List Call) where
  abbrev net : Core
  net = record { plan = rs; calls = cs }

  -- a ticket that may be taken: some ticket, and nobody's
  module _ (ticket : ℕ) where
    some_ticket : (ticket ≡ no_ticket → ⊥) → not (eqb ticket no_ticket) ≡ true
    some_ticket apart = ap not (ne_eqb ticket no_ticket apart)

    pub start_20 : (node : ℕ) → ticket ≡ no_ticket → 20 ≡ fault net (start ticket node)
    unfolding fault
    start_20 node e = rw (eq-eqb ticket no_ticket e)

    pub call_20 : (parent node : ℕ) → ticket ≡ no_ticket → 20 ≡ fault net (call parent ticket node)
    unfolding fault
    call_20 parent node e = rw (eq-eqb ticket no_ticket e)

    module _ (apart : ticket ≡ no_ticket → ⊥) where
      pub start-21 : (node : ℕ) (c : Call) → lookup cs ticket ≡ some c → 21 ≡ fault net (start ticket node)
      unfolding fault
      start-21 node c e = rw (some_ticket apart, e)

      pub call-21 : (parent node : ℕ) (c : Call) → lookup cs ticket ≡ some c → 21 ≡ fault net (call parent ticket node)
      unfolding fault
      call-21 parent node c e = rw (some_ticket apart, e)

      module _ (fresh : lookup cs ticket ≡ none) where
        pub start-22 : (node : ℕ) → has_node rs node ≡ false → 22 ≡ fault net (start ticket node)
        unfolding fault
        start-22 node e = rw (some_ticket apart, fresh, e)

        pub start-26 : (node : ℕ) → has_node rs node ≡ true → most_open ≤ length cs → 26 ≡ fault net (start ticket node)
        unfolding fault
        start-26 node e full = rw (some_ticket apart, fresh, e, le-ltb (length cs) most_open full)

        pub start-0 : (node : ℕ) → has_node rs node ≡ true → length cs < most_open → 0 ≡ fault net (start ticket node)
        unfolding fault
        start-0 node e room = rw (some_ticket apart, fresh, e, lt-ltb (length cs) most_open room)

        pub call-23 : (parent node : ℕ) → lookup cs parent ≡ none → 23 ≡ fault net (call parent ticket node)
        unfolding fault
        call-23 parent node e = rw (some_ticket apart, fresh, e)

        module _ (parent node : ℕ) (p : Call) (stands : lookup cs parent ≡ some p) where
          pub call-24 : p.active ≡ false → 24 ≡ fault net (call parent ticket node)
          unfolding fault
          call-24 waits = rw (some_ticket apart, fresh, stands, waits)

          module _ (runs : p.active ≡ true) where
            pub call-22 : has_node rs node ≡ false → 22 ≡ fault net (call parent ticket node)
            unfolding fault
            call-22 e = rw (some_ticket apart, fresh, stands, runs, e)

            module _ (listed : has_node rs node ≡ true) where
              pub call-25 : has_edge rs p.node node ≡ false → 25 ≡ fault net (call parent ticket node)
              unfolding fault
              call-25 e = rw (some_ticket apart, fresh, stands, runs, listed, e)

              pub call-26 : has_edge rs p.node node ≡ true → most_open ≤ length cs → 26 ≡ fault net (call parent ticket node)
              unfolding fault
              call-26 e full = rw (some_ticket apart, fresh, stands, runs, listed, e, le-ltb (length cs) most_open full)

              pub call-0 : has_edge rs p.node node ≡ true → length cs < most_open → 0 ≡ fault net (call parent ticket node)
              unfolding fault
              call-0 e room = rw (some_ticket apart, fresh, stands, runs, listed, e, lt-ltb (length cs) most_open room)

  -- a return
  pub return_27 : (ticket : ℕ) → lookup cs ticket ≡ none → 27 ≡ fault net (return ticket)
  unfolding fault
  return_27 ticket e = rw e

  module _ (ticket : ℕ) (c : Call) (stands : lookup cs ticket ≡ some c) where
    pub return_28 : c.active ≡ false → 28 ≡ fault net (return ticket)
    unfolding fault
    return_28 waits = rw (stands, waits)

    pub return_29 : c.active ≡ true → has_child cs ticket ≡ true → 29 ≡ fault net (return ticket)
    unfolding fault
    return_29 runs e = rw (stands, runs, e)

    pub return_0 : c.active ≡ true → has_child cs ticket ≡ false → 0 ≡ fault net (return ticket)
    unfolding fault
    return_0 runs e = rw (stands, runs, e)

  -- a taking back
  pub back_27 : (ticket : ℕ) → lookup cs ticket ≡ none → 27 ≡ fault net (take_back ticket)
  unfolding fault
  back_27 ticket e = rw e

  module _ (ticket : ℕ) (c : Call) (stands : lookup cs ticket ≡ some c) where
    pub back_34 : c.active ≡ true → 34 ≡ fault net (take_back ticket)
    unfolding fault
    back_34 runs = rw (stands, runs)

    pub back_0 : c.active ≡ false → 0 ≡ fault net (take_back ticket)
    unfolding fault
    back_0 waits = rw (stands, waits)

-- the parents tell who has a child
module _ {rs : List Record} {cs : List Call} {tickets parents keys : List ℕ} {used : ℕ} (seen : ReturnSeen rs cs tickets parents keys used) (ticket : ℕ)
    (apart : ticket ≡ no_ticket → ⊥) where
  pub child_fits : Searched parents used ticket
  child_fits =
      let told = seen.calls_told in
      record { table = tells_table seen.of_parents told.count told.firm.few; some_number = omega (arith, apart) }

  pub child_told : (r : Bool) → r ≡ holds-below most_open (holds parents ticket) → r ≡ has_child cs ticket
  unfolding has_child
  child_told r e = e ∙ child_is seen.of_parents seen.calls_told.firm.few ticket (omega (arith, apart))

-- the edge from a parent's node to a listed node, in the words
module _ {rs : List Record} {edges : List ℕ} (edging : Edging rs edges) (n m : ℕ) (from-listed : n < nodes) (to-listed : m < nodes) where
  pub edge_told : (r : Bool) → r ≡ member (get_or edges n 0) m → has_edge rs n m ≡ r
  unfolding linked
  edge_told r e = sym (edging.tells n m from-listed to-listed) ∙ sym e

-- a listed node is below the count of nodes
pub node_small : {rs : List Record} {places : List ℕ} → Listing rs places → (n : ℕ) → has_node rs n ≡ true → n < nodes
node_small {rs} {places} listing n e =
    ⊎_elim
    (λ (p : n < nodes). p)
    (λ (p : nodes ≤ n).
    absurd (never_both (listing.tells n ∙ e) (ap somewhere (get_or-eq_default places nowhere-place (omega (arith, listing.whole))))))
    (lt_or_ge n nodes)

-- what is known of a call where its parent was found: the ticket is new, the parent stands at a place, and the key there tells whether it is active
pub record Parented (rs : List Record) (cs : List Call) (keys open-nodes : List ℕ) (parent ticket at : ℕ) : Type 0 where
  pub fresh : lookup cs ticket ≡ none
  pub who : Call
  pub found : lookup cs parent ≡ some who
  pub inside : at < most_open
  pub key_told : get_or keys at 0 ≡ key_of rs who
  pub node_told : get_or open-nodes at 0 ≡ who.node
  pub listed : has_node rs who.node ≡ true

module _ {rs : List Record} {cs : List Call} {tickets keys open-nodes places edges : List ℕ} {used : ℕ}
    (seen : CallSeen rs cs tickets keys open-nodes places edges used) where
  pub parented : {parent ticket at : ℕ} → lookup cs ticket ≡ none → StandsAt cs parent at → Parented rs cs keys open-nodes parent ticket at
  parented {parent} {ticket} {at} fresh w =
      let told = seen.calls_told in
      record {
        fresh = fresh;
        who = w.who;
        found = w.found;
        inside = w.inside;
        key_told = told_there (has parent) w.who at seen.of_keys w.found w.here;
        node_told = told_there (has parent) w.who at seen.of_nodes w.found w.here;
        listed = told.firm.known w.who (found_in (has parent) cs w.who w.found).0;
      }

  module _ (node : ℕ) {parent ticket at : ℕ} (apart : ticket ≡ no_ticket → ⊥) (p : Parented rs cs keys open-nodes parent ticket at) where
    pub waiting_parent : (get_or keys at 0 ≡ 0 → ⊥) → 24 ≡ fault (net rs cs) (call parent ticket node)
    waiting_parent some_key = call-24 rs cs ticket apart p.fresh parent node p.who p.found (key_waits rs p.who (λ q. some_key (p.key_told ∙ q)))

    module _ (no_key : get_or keys at 0 ≡ 0) where
      runs : p.who.active ≡ true
      runs = key_active rs p.who (sym p.key_told ∙ no_key)

      pub node-lacking : listed_node places node ≡ false → 22 ≡ fault (net rs cs) (call parent ticket node)
      node-lacking e = call-22 rs cs ticket apart p.fresh parent node p.who p.found runs (sym (seen.listing.tells node) ∙ e)

      module _ (there-is : listed_node places node ≡ true) where
        node_listed : has_node rs node ≡ true
        node_listed = sym (seen.listing.tells node) ∙ there-is

        from-small : get_or open-nodes at 0 < nodes
        from-small = omega (arith, p.node_told, node_small seen.listing p.who.node p.listed)

        to-small : node < nodes
        to-small = node_small seen.listing node node_listed

        pub row_inside : get_or open-nodes at 0 < length edges
        row_inside = omega (arith, from-small, seen.edging.whole)

        edge-from : (r : Bool) → r ≡ member (get_or edges (get_or open-nodes at 0) 0) node → has_edge rs p.who.node node ≡ r
        edge-from r e =
            ap (λ (n : ℕ). has_edge rs n node) (sym p.node_told) ∙ edge_told seen.edging (get_or open-nodes at 0) node from-small to-small r e

        pub no_edge : false ≡ member (get_or edges (get_or open-nodes at 0) 0) node → 25 ≡ fault (net rs cs) (call parent ticket node)
        no_edge e = call-25 rs cs ticket apart p.fresh parent node p.who p.found runs node_listed (edge-from false e)

        module _ (in_row : true ≡ member (get_or edges (get_or open-nodes at 0) 0) node) where
          edge-is : has_edge rs p.who.node node ≡ true
          edge-is = edge-from true in_row

          pub table-full : used ≡ most_open → 26 ≡ fault (net rs cs) (call parent ticket node)
          table-full e =
              call-26 rs cs ticket apart p.fresh parent node p.who p.found runs node_listed edge-is (omega (arith, seen.calls_told.count))

          pub call_passes : (used ≡ most_open → ⊥) → 0 ≡ fault (net rs cs) (call parent ticket node)
          call_passes room =
              call-0 rs cs ticket apart p.fresh parent node p.who p.found runs node_listed edge-is
              (omega (arith, seen.calls_told.count, seen.calls_told.firm.few, room))
