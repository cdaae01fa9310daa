-- The keys of the open calls, told from the plan's arrays: a node with a record has its site and its level there. Assumes nothing.
use Prim.Native.Nat.{ℕ, ◌+◌, ◌*◌, ◌<◌}
use mathlib.Core.Path.{◌≡◌, sym, ap, ap₂, subst}
use mathlib.Core.Bool.{Bool, true, false, cond}
use mathlib.Core.List.{List, Memᴰ}
use lib.ListN.{get_or}
use Rattle.ids.specs.Limits.{most_threads}
use Rattle.model.specs.PlanValue.{Sized, records_of}
use Rattle.model.specs.Net.{Call, has_node}
use Rattle.model.specs.declared.Plan.{Plan}
use Rattle.moves.specs.Held.{key_of}
use Rattle.value.proofs.NodeLaws.{site_there, level_there}
use Rattle.lists.proofs.PlaceLaws.{member_there}
use Rattle.lists.proofs.TabledLaws.{get_or-tabled}
use native.Mathlib.Omega.{arith}
use Rattle.value.specs.View.{call_of, spare, first_calls}
use Rattle.value.specs.declared.Net.{Net}
use Rattle.apart.specs.Apart.{key_in, Known}
use Rattle.apart.proofs.ApartLaws.{first-length}

pub key_in_active : (places levels : List ℕ) (c : Call) → c.active ≡ true → 0 ≡ key_in places levels c
unfolding key_in
key_in_active places levels c e = sym (ap (λ (b : Bool). cond b 0 (most_threads * get_or places c.node 0 + get_or levels c.node 0 + 1)) e)

pub key_in_waits : (places levels : List ℕ) (c : Call) → c.active ≡ false
    → most_threads * get_or places c.node 0 + get_or levels c.node 0 + 1 ≡ key_in places levels c
unfolding key_in
key_in_waits places levels c e = sym (ap (λ (b : Bool). cond b 0 (most_threads * get_or places c.node 0 + get_or levels c.node 0 + 1)) e)

pub key_is : (p : Plan) → Sized p → (c : Call) → has_node (records_of p) c.node ≡ true → key_in p.places p.levels c ≡ key_of (records_of p) c
unfolding key_in key_of
key_is p sized c known =
    ap₂ (λ (s l : ℕ). cond c.active 0 (most_threads * s + l + 1)) (sym (site_there p sized c.node known)) (sym (level_there p sized c.node known))

-- the key of an open call whose node has a record
pub key_told : (net : Net) (i : ℕ) → i < net.used → Sized net.plan → Known net
    → key_in net.plan.places net.plan.levels (call_of (get_or net.calls i spare)) ≡ key_of (records_of net.plan) (call_of (get_or net.calls i spare))
unfolding first_calls
key_told net i inside sized known = key_is net.plan sized here (known here (subst (λ (c : Call). Memᴰ c (first_calls net.calls net.used)) there member))
  where
    here : Call
    here = call_of (get_or net.calls i spare)

    there : get_or (first_calls net.calls net.used) i (call_of spare) ≡ here
    there = get_or-tabled net.used (λ j. call_of (get_or net.calls j spare)) i (call_of spare) inside

    member : Memᴰ (get_or (first_calls net.calls net.used) i (call_of spare)) (first_calls net.calls net.used)
    member = member_there (first_calls net.calls net.used) i (call_of spare) (omega (arith, first-length net.calls net.used))
