-- The numbers of document 01, "Starts, calls, returns", and of its requests, for the refusals of a net, a command or a question. Assumes nothing.
use Rattle.std.specs.Prelude.{ℕ, cond, eqb}
use Rattle.model.specs.declared.Refusal.{Refusal}

abbrev pub refusal_told : Refusal → ℕ
refusal_told Refusal.BrokenPlan = 18
refusal_told Refusal.BrokenNet = 19
refusal_told Refusal.NoTicket = 20
refusal_told Refusal.TicketOpen = 21
refusal_told Refusal.NoSuchNode = 22
refusal_told Refusal.ParentNotOpen = 23
refusal_told Refusal.ParentWaits = 24
refusal_told Refusal.NoSuchEdge = 25
refusal_told Refusal.TooManyOpen = 26
refusal_told Refusal.NotOpen = 27
refusal_told Refusal.StillWaits = 28
refusal_told Refusal.ChildOpen = 29
refusal_told Refusal.NoSuchRoom = 30
refusal_told Refusal.NotWaiting = 34

-- the refusal of a number: each number names its own (`told_named`, of RefusalLaws)
abbrev pub refusal_numbered : ℕ → Refusal
refusal_numbered n =
    cond (eqb n 18) Refusal.BrokenPlan
    (cond (eqb n 19) Refusal.BrokenNet
    (cond (eqb n 20) Refusal.NoTicket
    (cond (eqb n 21) Refusal.TicketOpen
    (cond (eqb n 22) Refusal.NoSuchNode
    (cond (eqb n 23) Refusal.ParentNotOpen
    (cond (eqb n 24) Refusal.ParentWaits
    (cond (eqb n 25) Refusal.NoSuchEdge
    (cond (eqb n 26) Refusal.TooManyOpen
    (cond (eqb n 27) Refusal.NotOpen
    (cond (eqb n 28) Refusal.StillWaits
    (cond (eqb n 29) Refusal.ChildOpen
    (cond (eqb n 30) Refusal.NoSuchRoom Refusal.NotWaiting))))))))))))
