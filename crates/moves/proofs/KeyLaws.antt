-- What a key says of its call: it is 0 where the call is active, and only there. Assumes nothing.
use Prim.Native.Nat.{◌+◌, ◌*◌}
use native.Mathlib.Omega.{arith}
use mathlib.Core.Path.{◌≡◌, refl}
use mathlib.Core.Bool.{Bool, true, false, cond}
use mathlib.Core.List.{List}
use Rattle.ids.specs.Limits.{most_threads}
use Rattle.model.specs.Plan.{Record}
use Rattle.model.specs.Net.{Call, site_of, level_of}
use Rattle.moves.specs.Held.{key_of}

pub key_active : (rs : List Record) (c : Call) → key_of rs c ≡ 0 → c.active ≡ true
unfolding key_of
key_active rs c e = go c.active e
  where
    go : (b : Bool) → cond b 0 (most_threads * site_of rs c.node + level_of rs c.node + 1) ≡ 0 → b ≡ true
    go true q = refl
    go false q = absurd (omega arith)

pub key_waits : (rs : List Record) (c : Call) → (key_of rs c ≡ 0 → ⊥) → c.active ≡ false
unfolding key_of
key_waits rs c apart = go c.active apart
  where
    go : (b : Bool) → (cond b 0 (most_threads * site_of rs c.node + level_of rs c.node + 1) ≡ 0 → ⊥) → b ≡ false
    go true q = absurd (q refl)
    go false q = refl

-- the call that stands for none at a place past the end
abbrev pub nobody : Call
nobody = record { ticket = 0; parent = 0; node = 0; active = false }
