-- `Rooms::without_limit` meets its contract: each place of a repeated number holds it. Assumes nothing.
use native.Mathlib.Omega.{arith}
use Prim.Native.Nat.{ℕ}
use Rattle.std.proofs.lemmas.List.{get_or-replicate, length-replicate}
use Rattle.rooms.proofs.Rooms.without_limit.Goals as goal

pub returns : goal.returns
returns c = record { whole = length-replicate {A = ℕ} 1024 255; each = λ i h. get_or-replicate 1024 i 255 0 (omega arith) }
