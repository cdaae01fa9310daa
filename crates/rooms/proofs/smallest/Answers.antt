-- `rooms::smallest` meets its contract. The loop's invariant: `low` is the smallest of the levels below k. Assumes nothing.
use Prim.Native.Nat.{ℕ, ◌+◌, ◌-◌, min}
use native.Mathlib.Omega.{arith}
use mathlib.Core.Path.{◌≡◌, ap, ◌∙◌}
use lib.ListN.{get_or}
use Rattle.lists.specs.Count.{smallest}
use Rattle.lists.proofs.CountLaws.{smallest-next}
use Rattle.rooms.specs.Rooms.{room_in}
use Rattle.rooms.proofs.smallest.Goals as goal

pub loop-k-init : goal.loop-k-init
unfolding smallest
loop-k-init c = let first : c.args.base ≡ c.args.base + 0 = omega arith in ap (λ (n : ℕ). get_or c.args.rooms.now n 0) first

pub loop-k-preserved : goal.loop-k-preserved
loop-k-preserved c = let all = room_in c.args.rooms.now c.args.base in
    let k = c.loop-k.k in
    let same : k ≡ k + 1 - 1 = omega arith in
    c.min-low.ensures ∙ ap (λ (n : ℕ). min n (all k)) c.loop-k.invariant ∙ smallest-next k all ∙ ap (λ (n : ℕ). smallest n all) same

pub returns : goal.returns
returns c = let last : c.loop-k.k - 1 ≡ c.args.level = omega arith in
    c.loop-k.invariant ∙ ap (λ (n : ℕ). smallest n (room_in c.args.rooms.now c.args.base)) last
