-- How far a run went, told of whichever net the arrays hold: command after command, each with the net after it and its line behind the last one. For the
-- contracts of `runs`. Assumes nothing.
use Rattle.std.specs.Prelude.{ℕ, Result, Ok, Err, ◌+◌, ◌-◌, ◌≤◌, ◌<◌, ◌≡◌, List, [], ◌++◌, length}
use Rattle.model.specs.Net.{Core}
use Rattle.model.specs.Text.{Text}
use Rattle.model.specs.Transcript.{line, after}
use Rattle.moves.specs.Held.{Arrays}
use Rattle.text.specs.Put.{Put}
use Rattle.text.specs.Room.{line_room}
use Rattle.decode.specs.Asked.{asked, request_at}
use Rattle.decode.specs.declared.Request.{Request}
use Rattle.decode.specs.declared.Unread.{Unread}
use Rattle.steps.specs.Running.{Running}
use Rattle.runs.specs.declared.Stop.{Stop}
use Rattle.runs.specs.declared.Ran.{Ran}

-- the net, the place in the input, the commands answered and their lines; a command is answered where its line has room in a text of this size
pub data Went (bytes : List ℕ) (size : ℕ) (first : Core) (from : ℕ) : Core → ℕ → ℕ → Text → Type 0 where
  nowhere : Went bytes size first from first from 0 []
  further : {net : Core} {at commands : ℕ} {lines : Text} → Went bytes size first from net at commands lines → length lines + line_room ≤ size
      → (request : Request) (behind : ℕ) → Ok (request, behind) ≡ request_at bytes at
      → Went bytes size first from (after net (asked request)) behind (commands + 1) (lines ++ line net (asked request))

-- what stands where a command is due, as a reason to stop
abbrev pub stop_of : Result (Request × ℕ) Unread → Stop
stop_of (Ok found) = Stop.Full
stop_of (Err Unread.End) = Stop.End
stop_of (Err Unread.Cut) = Stop.Cut
stop_of (Err Unread.Unknown) = Stop.Unknown

-- no room for a line, and else no whole command
pub data Stops (bytes : List ℕ) (at room : ℕ) (why : Stop) : Type 0 where
  full : room < line_room → why ≡ Stop.Full → Stops bytes at room why
  no_command : line_room ≤ room → ((request : Request) (behind : ℕ) → Ok (request, behind) ≡ request_at bytes at → ⊥)
      → why ≡ stop_of (request_at bytes at) → Stops bytes at room why

-- where a run stands
pub record RunStands (first : Core) (b : Arrays) (used : ℕ) (most-of places levels edges bytes : List ℕ) (from at commands : ℕ) (old new : List ℕ)
    (to : ℕ) : Type 0 where
  pub net : Core
  pub lines : Text
  pub went : Went bytes (length old) first from net at commands lines
  pub runs_on : Running net b used most-of places levels edges
  pub written : Put old 0 lines new to

abbrev pub ArraysRun : Arrays → Arrays → ℕ → ℕ → Ran → List ℕ → List ℕ → List ℕ → List ℕ → List ℕ → ℕ → List ℕ → List ℕ → Type 0
ArraysRun a b used used-after r most-of places levels edges bytes from old new =
    (first : Core) → Running first a used most-of places levels edges
    → RunStands first b used-after most-of places levels edges bytes from r.at r.commands old new r.to
    × Stops bytes r.at (length new - r.to) r.why
