-- The number of a refusal, and what a reading answer tells, determine it: each number names its refusal, and none is 0. Assumes nothing.
use Prim.Native.Nat.{ℕ}
use native.Mathlib.Omega.{arith}
use mathlib.Core.Path.{◌≡◌, refl, sym, ap, ap₂, ◌∙◌}
use mathlib.Core.Bool.{cond}
use lib.Dec.{eqb}
use Rattle.std.specs.Prelude.{Result, Ok, Err}
use Rattle.model.specs.PlanValue.{refusal_number, told_read}
use Rattle.model.specs.Refusal.{refusal_told, refusal_numbered}
use Rattle.model.specs.Refusals.{plan_refusal, net_refusal}
use Rattle.model.specs.declared.Refusal.{Refusal}
use Rattle.model.specs.declared.PlanRefusal.{PlanRefusal}
use Rattle.model.specs.declared.ReadFault.{ReadFault}

-- a number names its refusal
abbrev refusal_of : ℕ → PlanRefusal
refusal_of n =
    cond (eqb n 1) PlanRefusal.InputEnds
    (cond (eqb n 2) PlanRefusal.UnknownKind
    (cond (eqb n 3) PlanRefusal.NotRising
    (cond (eqb n 4) PlanRefusal.OutOfRange
    (cond (eqb n 5) PlanRefusal.NotListed
    (cond (eqb n 6) PlanRefusal.LevelTooHigh
    (cond (eqb n 7) PlanRefusal.Loop
    (cond (eqb n 8) PlanRefusal.SelfDependence PlanRefusal.TooManyEdges)))))))

-- and none is 0
pub refusal_named : (w : PlanRefusal) → (refusal_of (refusal_number w) ≡ w) × (refusal_number w ≡ 0 → ⊥)
refusal_named PlanRefusal.InputEnds = (refl, λ e. omega arith)
refusal_named PlanRefusal.UnknownKind = (refl, λ e. omega arith)
refusal_named PlanRefusal.NotRising = (refl, λ e. omega arith)
refusal_named PlanRefusal.OutOfRange = (refl, λ e. omega arith)
refusal_named PlanRefusal.NotListed = (refl, λ e. omega arith)
refusal_named PlanRefusal.LevelTooHigh = (refl, λ e. omega arith)
refusal_named PlanRefusal.Loop = (refl, λ e. omega arith)
refusal_named PlanRefusal.SelfDependence = (refl, λ e. omega arith)
refusal_named PlanRefusal.TooManyEdges = (refl, λ e. omega arith)

pub refusal_injective : (a b : PlanRefusal) → refusal_number a ≡ refusal_number b → a ≡ b
refusal_injective a b e = sym (refusal_named a).0 ∙ ap refusal_of e ∙ (refusal_named b).0

-- what a reading answer tells determines it
pub read_injective : (a b : Result ℕ ReadFault) → told_read a ≡ told_read b → a ≡ b
read_injective (Ok u) (Ok v) e = let same : u ≡ v = cc in ap Ok same
read_injective (Ok u) (Err f) e = let z : refusal_number f.why ≡ 0 = cc in absurd ((refusal_named f.why).1 z)
read_injective (Err f) (Ok v) e = let z : refusal_number f.why ≡ 0 = cc in absurd ((refusal_named f.why).1 z)
read_injective (Err f) (Err g) e =
    let why : refusal_number f.why ≡ refusal_number g.why = cc in
    let at : f.offset ≡ g.offset = cc in
    ap₂ (λ (w : PlanRefusal) (o : ℕ). Err (record { why = w; offset = o })) (refusal_injective f.why g.why why) at

-- the same of the refusals of nets, commands and questions
pub told_named : (w : Refusal) → (refusal_numbered (refusal_told w) ≡ w) × (refusal_told w ≡ 0 → ⊥)
told_named Refusal.BrokenPlan = (refl, λ e. omega arith)
told_named Refusal.BrokenNet = (refl, λ e. omega arith)
told_named Refusal.NoTicket = (refl, λ e. omega arith)
told_named Refusal.TicketOpen = (refl, λ e. omega arith)
told_named Refusal.NoSuchNode = (refl, λ e. omega arith)
told_named Refusal.ParentNotOpen = (refl, λ e. omega arith)
told_named Refusal.ParentWaits = (refl, λ e. omega arith)
told_named Refusal.NoSuchEdge = (refl, λ e. omega arith)
told_named Refusal.TooManyOpen = (refl, λ e. omega arith)
told_named Refusal.NotOpen = (refl, λ e. omega arith)
told_named Refusal.StillWaits = (refl, λ e. omega arith)
told_named Refusal.ChildOpen = (refl, λ e. omega arith)
told_named Refusal.NoSuchRoom = (refl, λ e. omega arith)
told_named Refusal.NotWaiting = (refl, λ e. omega arith)

pub told_injective : (a b : Refusal) → refusal_told a ≡ refusal_told b → a ≡ b
told_injective a b e = sym (told_named a).0 ∙ ap refusal_numbered e ∙ (told_named b).0

-- the two rows of the table that stand outside the orders of the commands
pub plan_named : refusal_numbered plan_refusal ≡ Refusal.BrokenPlan
plan_named = refl

pub net_named : refusal_numbered net_refusal ≡ Refusal.BrokenNet
net_named = refl
