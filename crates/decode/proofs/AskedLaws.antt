-- The request that is read is the model's: at each kind both are made of the same bytes. Assumes nothing.
use Prim.Native.Nat.{ℕ}
use mathlib.Core.Path.{◌≡◌, refl}
use mathlib.Core.Bool.{Bool, true, false, cond}
use mathlib.Core.List.{List}
use lib.Dec.{eqb}
use Rattle.model.specs.Transcript.{request}
use Rattle.decode.specs.Asked.{asked, request_of}
use Rattle.decode.specs.declared.Request.{Request}

-- reading under a choice
pub asked_cond : (b : Bool) (x y : Request) → asked (cond b x y) ≡ cond b (asked x) (asked y)
asked_cond true x y = refl
asked_cond false x y = refl

pub asked-request : (kind : ℕ) (body : List ℕ) → asked (request_of kind body) ≡ request kind body
unfolding request
asked-request kind body =
    rw (
      asked_cond (eqb kind 0x10),
      asked_cond (eqb kind 0x11),
      asked_cond (eqb kind 0x12),
      asked_cond (eqb kind 0x13),
      asked_cond (eqb kind 0x15),
    )
