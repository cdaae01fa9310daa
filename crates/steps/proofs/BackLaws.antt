-- A taking back: the call that goes is found at its place, and the arrays without it hold the net after the step. Assumes nothing.
use Prim.Native.Nat.{ℕ, ◌-◌}
use mathlib.Core.Path.{◌≡◌, refl, sym}
use mathlib.Core.List.{List}
use Rattle.ids.specs.Limits.{no_ticket}
use Rattle.lists.specs.Pick.{first_place}
use Rattle.model.specs.Net.{Call, Core, has, closed}
use Rattle.model.specs.Steady.{Withdrawn}
use Rattle.model.specs.Command.{take_back, ended, fault, withdrawing, step}
use Rattle.model.proofs.FirmLaws.{withdrawn_leaves}
use Rattle.model.proofs.StepLaws.{accepted_step, back_fits}
use Rattle.table.specs.declared.Table.{Table}
use Rattle.table.specs.Places.{Gap, Closings}
use Rattle.moves.specs.Held.{arrays}
use Rattle.moves.proofs.CloseLaws.{gap, withdrawn_held}
use Rattle.faults.specs.Seen.{BackSeen}
use Rattle.text.specs.Lines.{a_number}
use Rattle.steps.specs.Running.{Running, Stepped}
use Rattle.steps.proofs.StandLaws.{runs_after}

module _ {net : Core} (t : Table) {left most-of places levels edges : List ℕ}
    (run : Running net (arrays t.tickets t.parents t.keys t.nodes left) t.used most-of places levels edges) where
  pub back_seen : BackSeen net.plan net.calls t.tickets t.keys t.used
  back_seen =
      let h = run.held in
      record { calls_told = record { of_tickets = h.of_tickets; count = h.count; firm = h.firm }; of_keys = h.of_keys }

  module _ (ticket at : ℕ) (told : (0 ≡ fault net (take_back ticket)) × (◌≡◌ {A = ℕ} 0 0 → at ≡ first_place (has ticket) net.calls)) where
    none_fails : fault net (take_back ticket) ≡ 0
    none_fails = sym told.0

    going : (c : Call) × Withdrawn net.calls ticket c
    going = back_fits net ticket none_fails

    pub back_gap : Gap t at
    back_gap = gap t run.held (withdrawn_leaves run.held.firm going.1) at (told.1 refl)

    pub withdrawn : {new : Table} → Closings at t.used t new
        → Stepped (step net (take_back ticket)) (arrays new.tickets new.parents new.keys new.nodes left) (t.used - 1) (a_number no_ticket) most-of places levels edges
    unfolding withdrawing
    withdrawn shut =
        runs_after run (take_back ticket) (closed net.calls ticket) (ended no_ticket) (accepted_step net (take_back ticket) none_fails) refl
        (withdrawn_held t run.held going.1 at (told.1 refl) shut)
