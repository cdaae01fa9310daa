-- What a run of a net by value answers and writes. For the contract of `transcript::run`. Assumes nothing.
use Rattle.std.specs.Prelude.{ℕ, ◌-◌, ◌≡◌, List, length}
use Rattle.model.specs.Net.{Core}
use Rattle.model.specs.Text.{Text}
use Rattle.text.specs.Put.{Put}
use Rattle.runs.specs.Went.{Went, Stops}
use Rattle.runs.specs.declared.Stop.{Stop}
use Rattle.value.specs.View.{core_of, broken}
use Rattle.value.specs.Handed.{value_of}
use Rattle.value.specs.declared.Net.{Net}
use Rattle.transcript.specs.declared.Halt.{Halt}
use Rattle.transcript.specs.declared.NetRan.{NetRan}

abbrev pub halt_of : Stop → Halt
halt_of Stop.Full = Halt.Full
halt_of Stop.End = Halt.End
halt_of Stop.Cut = Halt.Cut
halt_of Stop.Unknown = Halt.Unknown

-- a net that breaks a rule: nothing is read, and nothing written
abbrev pub untouched : Net → ℕ → NetRan
untouched net from = record { net = net; at = from; to = 0; commands = 0; why = Halt.Broken }

-- and else: command after command from the net that the value tells, each with its line behind the last one, until there is no room or no whole command
pub record RanOn (net : Net) (bytes : List ℕ) (from : ℕ) (old new : List ℕ) (r : NetRan) : Type 0 where
  pub core : Core
  pub lines : Text
  pub went : Went bytes (length old) (core_of net) from core r.at r.commands lines
  pub net_is : r.net ≡ value_of net.plan core.calls
  pub written : Put old 0 lines new r.to
  pub why : Stop
  pub stops : Stops bytes r.at (length new - r.to) why
  pub why_is : r.why ≡ halt_of why

pub record NetRuns (net : Net) (bytes : List ℕ) (from : ℕ) (old new : List ℕ) (r : NetRan) : Type 0 where
  pub refuses : (broken net ≡ 0 → ⊥) → (r ≡ untouched net from) × (new ≡ old)
  pub runs : broken net ≡ 0 → RanOn net bytes from old new r
