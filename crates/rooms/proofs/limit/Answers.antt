-- `rooms::limit` meets its contract. The loop's invariant: `low` is the minimum over the levels below k. Assumes nothing.
use Prim.Native.Nat.{◌+◌}
use native.Mathlib.Omega.{arith}
use mathlib.Core.Path.{◌≡◌, subst, sym, ap, ◌∙◌}
use mathlib.Core.Bool.{Bool, cond}
use lib.ListN.{get_or}
use lib.Dec.{eqb}
use borrow.Author.Tests.{eq-eqb, ne_eqb}
use Rattle.rooms.proofs.LimitLaws.{Lowest, lowest_start, lowest_turn, lowest_end}
use Rattle.rooms.proofs.limit.Goals.{then-room-eq0, else-room-eq0}
use Rattle.rooms.proofs.limit.Goals as goal

pub loop-k-init : goal.loop-k-init
loop-k-init c = lowest_start _ _ _

pub loop-k-preserved : goal.loop-k-preserved
loop-k-preserved c = let room = get_or c.args.rooms.now (c.args.base + c.loop-k.k) 0 in
    let here : c.if-room-eq0.lowest_here ≡ cond (eqb room 0) c.loop-k.k c.args.threads = elim c.if-room-eq0.branch [
      | then-room-eq0 w ↦
          w.lowest_here-is ∙ sym (ap (λ (b : Bool). cond b c.loop-k.k c.args.threads) (eq-eqb room 0 w.if-room-eq0.true))
      | else-room-eq0 w ↦
          w.lowest_here-is ∙ sym (ap (λ (b : Bool). cond b c.loop-k.k c.args.threads) (ne_eqb room 0 w.if-room-eq0.false))
    ] in
    subst (Lowest _ _ _ (c.loop-k.k + 1)) (sym c.min-low.ensures)
    (lowest_turn _ _ _ c.requires c.loop-k.k _ _ (omega arith) c.loop-k.invariant here)

pub returns : goal.returns
returns c = lowest_end _ _ _ c.requires c.loop-k.k _ (omega arith) c.loop-k.invariant
