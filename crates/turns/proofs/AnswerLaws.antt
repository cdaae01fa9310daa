-- What each request answers and leaves is what the run's line and the net after it say: a question leaves the net as it was. Assumes nothing.
use Prim.Native.Nat.{ℕ}
use mathlib.Core.Path.{◌≡◌, sym, ap, subst, ◌∙◌}
use mathlib.Core.List.{List}
use Rattle.model.specs.Net.{Core}
use Rattle.model.specs.Command.{Command, start, call, return, take_back, step, ask, room_at}
use Rattle.model.specs.Transcript as transcript
use Rattle.model.specs.Transcript.{command, line, after}
use Rattle.moves.specs.Held.{Arrays}
use Rattle.text.specs.Lines.{Shown, of_standing, of_room}
use Rattle.text.proofs.LineLaws.{start_line, call_line, return_line, back_line, ask-line, room-line}
use Rattle.decode.specs.declared.Request.{Request}
use Rattle.steps.specs.Running.{Running, Stepped}
use Rattle.decode.specs.Asked.{asked}
use Rattle.turns.specs.Turn.{request_line, answer_to, Answered}

module _ (net : Core) {b : Arrays} {used : ℕ} {what : Shown} {most-of places levels edges : List ℕ} where
  -- the request is known by what it is matched with
  known_as : {q r : Request} → q ≡ r → Answered net r b used what most-of places levels edges → Answered net q b used what most-of places levels edges
  known_as e h = rw e h

  pub started : {q : Request} (ticket node : ℕ) → q ≡ Request.Start node ticket
      → Stepped (step net (start ticket node)) b used what most-of places levels edges → Answered net q b used what most-of places levels edges
  unfolding after
  started ticket node e s = known_as e (record { says = s.says; runs_on = s.runs_on })

  pub called : {q : Request} (parent ticket node : ℕ) → q ≡ Request.Call node parent ticket
      → Stepped (step net (call parent ticket node)) b used what most-of places levels edges → Answered net q b used what most-of places levels edges
  unfolding after
  called parent ticket node e s = known_as e (record { says = s.says; runs_on = s.runs_on })

  pub returned : {q : Request} (ticket : ℕ) → q ≡ Request.Return ticket
      → Stepped (step net (return ticket)) b used what most-of places levels edges → Answered net q b used what most-of places levels edges
  unfolding after
  returned ticket e s = known_as e (record { says = s.says; runs_on = s.runs_on })

  pub taken_back : {q : Request} (ticket : ℕ) → q ≡ Request.TakeBack ticket
      → Stepped (step net (take_back ticket)) b used what most-of places levels edges → Answered net q b used what most-of places levels edges
  unfolding after
  taken_back ticket e s = known_as e (record { says = s.says; runs_on = s.runs_on })

  module _ (run : Running net b used most-of places levels edges) where
    pub asked-standing : {q : Request} (ticket : ℕ) → q ≡ Request.Ask ticket → what ≡ of_standing (ask net ticket)
        → Answered net q b used what most-of places levels edges
    unfolding after
    asked-standing ticket e says = known_as e (record { says = says; runs_on = run })

    pub asked-room : {q : Request} (s k : ℕ) → q ≡ Request.Room s k → what ≡ of_room (room_at net s k)
        → Answered net q b used what most-of places levels edges
    unfolding after
    asked-room s k e says = known_as e (record { says = says; runs_on = run })

-- the line that is printed of an answer is the request's
line-is : (net : Core) (q : Request) (what : Shown) → what ≡ answer_to net (asked q) → line net (asked q) ≡ request_line q what
line-is net (Request.Start node ticket) what e = start_line net ticket node what (sym e)
line-is net (Request.Call node parent ticket) what e = call_line net parent ticket node what (sym e)
line-is net (Request.Return ticket) what e = return_line net ticket what (sym e)
line-is net (Request.TakeBack ticket) what e = back_line net ticket what (sym e)
line-is net (Request.Ask ticket) what e = ask-line net ticket what (sym e)
line-is net (Request.Room s k) what e = room-line net s k what (sym e)

pub line_said : {net : Core} {q : Request} {b : Arrays} {used : ℕ} {what : Shown} {most-of places levels edges : List ℕ}
    → Answered net q b used what most-of places levels edges → line net (asked q) ≡ request_line q what
line_said {net} {q} {b} {used} {what} h = line-is net q what h.says

-- a command's answer is that of its step
pub command_stepped : {net : Core} {q : Request} {b : Arrays} {used : ℕ} {what : Shown} {most-of places levels edges : List ℕ}
    → Answered net q b used what most-of places levels edges → (c : Command) → asked q ≡ command c
    → Stepped (step net c) b used what most-of places levels edges
unfolding after
command_stepped {net} {q} {b} {used} {what} {most-of} {places} {levels} {edges} h c e =
    record {
      says = h.says ∙ ap (answer_to net) e;
      runs_on = subst (λ (r : transcript.Request). Running (after net r) b used most-of places levels edges) e h.runs_on;
    }
