-- `apart::key` meets its contract: both ways of the branch are cases of the definition. Assumes nothing.
use Prim.Native.Nat.{ℕ, ◌+◌, ◌*◌}
use mathlib.Core.Path.{◌∙◌, ap₂}
use Rattle.ids.specs.Limits.{most_threads}
use Rattle.value.specs.View.{call_of}
use Rattle.apart.proofs.KeyLaws.{key_in_active, key_in_waits}
use Rattle.apart.proofs.key.Goals as goal

pub returns-then-call : goal.returns-then-call
returns-then-call c = key_in_active _ _ (call_of c.args.call) c.if-call.true

pub returns : goal.returns
returns c = let told = ap₂ (λ (s l : ℕ). most_threads * s + l + 1) c.byte.ensures c.byte-2.ensures in
    told ∙ key_in_waits _ _ (call_of c.args.call) c.if-call.false
