-- `rooms::blocking` meets its contract. The loop's invariant: no level from k up to the asked one is full, so that the highest full one is the highest below k.
-- Assumes nothing.
use Prim.Native.Nat.{ℕ, suc, ◌+◌, ◌-◌}
use native.Mathlib.Omega.{arith}
use mathlib.Core.Path.{◌≡◌, sym, ap, ◌∙◌}
use borrow.Author.Tests.{eq-eqb, ne_eqb}
use Rattle.lists.specs.Count.{last}
use Rattle.lists.proofs.CountLaws.{last_here, last_passed}
use Rattle.rooms.specs.Rooms.{no_room}
use Rattle.rooms.proofs.LimitLaws.{last_low}
use Rattle.rooms.proofs.blocking.Goals as goal

pub loop-k-init : goal.loop-k-init
loop-k-init c = let same : suc c.args.level ≡ c.args.level + 1 = omega arith in
    ap (λ (n : ℕ). last n (no_room c.args.rooms.now c.args.base)) same

pub loop-k-preserved : goal.loop-k-preserved
unfolding no_room
loop-k-preserved c = let full = no_room c.args.rooms.now c.args.base in
    let same : c.loop-k.k ≡ suc (c.loop-k.k - 1) = omega arith in
    c.loop-k.invariant ∙ ap (λ (n : ℕ). last n full) same ∙ last_passed (c.loop-k.k - 1) full (ne_eqb _ 0 c.if-rooms-base-eq0.false)

pub returns-then-rooms-base-eq0 : goal.returns-then-rooms-base-eq0
unfolding no_room
returns-then-rooms-base-eq0 c = let full = no_room c.args.rooms.now c.args.base in
    let same : c.loop-k.k ≡ suc (c.loop-k.k - 1) = omega arith in
    last_here (suc c.args.level) full (c.loop-k.k - 1) (c.loop-k.invariant ∙ ap (λ (n : ℕ). last n full) same) (eq-eqb _ 0 c.if-rooms-base-eq0.true)

pub returns : goal.returns
returns c = sym (c.loop-k.invariant ∙ last_low c.loop-k.k _ (omega arith))
