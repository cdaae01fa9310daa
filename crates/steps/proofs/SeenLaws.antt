-- Arrays that hold a net show each request what it looks at. Assumes nothing.
use Prim.Native.Nat.{ℕ}
use mathlib.Core.List.{List}
use Rattle.model.specs.Net.{Core}
use Rattle.moves.specs.Held.{Arrays}
use Rattle.faults.specs.Seen.{Ticketed, CallSeen, ReturnSeen}
use Rattle.steps.specs.Running.{Running, AskSeen, RoomSeen}

module _ {net : Core} {a : Arrays} {used : ℕ} {most-of places levels edges : List ℕ} (run : Running net a used most-of places levels edges) where
  ticketed : Ticketed net.plan net.calls a.tickets used
  ticketed = let h = run.held in record { of_tickets = h.of_tickets; count = h.count; firm = h.firm }

  pub call_seen : CallSeen net.plan net.calls a.tickets a.keys a.nodes places edges used
  call_seen =
      record {
        calls_told = ticketed;
        of_keys = run.held.of_keys;
        of_nodes = run.held.of_nodes;
        listing = run.planned.listing;
        edging = run.planned.edging;
      }

  pub return_seen : ReturnSeen net.plan net.calls a.tickets a.parents a.keys used
  return_seen = record { calls_told = ticketed; of_parents = run.held.of_parents; of_keys = run.held.of_keys }

  pub ask_seen : AskSeen net a.tickets a.keys used
  ask_seen = record { calls_told = ticketed; of_keys = run.held.of_keys }

  pub room_seen : RoomSeen net a.rooms most-of
  room_seen = record { pass = run.held.firm.pass; law = run.held.firm.law; of_rooms = run.held.of_rooms; staffed = run.planned.staffed }
