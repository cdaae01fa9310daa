-- `text::Page::puts` meets its contract. The loop's invariant: the bytes that were looked at stand behind what stood there. Assumes nothing.
use Prim.Native.Nat.{◌≤◌}
use mathlib.Core.Path.{◌≡◌}
use lib.ListN.{length, take}
use Rattle.text.specs.Put.{Puts}
use Rattle.text.proofs.Page.puts.Given as goal

abbrev pub invariant-loop-byte : goal.invariant-loop-byte
invariant-loop-byte l = (l.byte-index ≤ length l.bytes) × (l.self.text.ghost_name ≡ l.initial.self.text.ghost_name) × Puts l.initial.self (take l.byte-index l.bytes) l.self
