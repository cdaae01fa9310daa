-- What stands at an offset, by the kind byte there and the bytes behind it: the cases of `next` for the table of commands. Assumes nothing.
use Prim.Native.Nat.{ℕ, ◌+◌, ◌-◌, ◌≤◌, ◌<◌}
use mathlib.Core.Path.{◌≡◌, sym, ap, ap₂, ◌∙◌}
use mathlib.Core.Option.{none, some}
use mathlib.Core.List.{List}
use lib.ListN.{length, get_or, take, drop}
use Rattle.model.specs.Transcript.{command_kinds}
use Rattle.model.proofs.HouseLaws.{next_lacking, next_unknown, next-cut, next-whole, behind-whole}
use Rattle.decode.specs.Asked.{request_at, request_from, request_of}
use Rattle.decode.specs.declared.Request.{Request}
use Rattle.decode.specs.declared.Unread.{Unread}
use Rattle.std.specs.Prelude.{Ok, Err}

module _ (bytes : List ℕ) (at : ℕ) where
  pub lacks_kind : length bytes ≤ at → Err Unread.End ≡ request_at bytes at
  lacks_kind h = sym (ap (λ n. request_from n at) (next_lacking command_kinds bytes at h))

  module _ (inside : at < length bytes) where
    pub strange : command_kinds (get_or bytes at 0) ≡ none → Err Unread.Unknown ≡ request_at bytes at
    strange e = sym (ap (λ n. request_from n at) (next_unknown command_kinds bytes at inside e))

    -- a kind that is known, with the length of its body
    module _ (size : ℕ) (long : command_kinds (get_or bytes at 0) ≡ some size) where
      pub short : length bytes - at - 1 < size → Err Unread.Cut ≡ request_at bytes at
      short h = sym (ap (λ n. request_from n at) (next-cut command_kinds bytes at inside size long h))

      pub complete : size ≤ length bytes - at - 1 → (found : Request)
          → found ≡ request_of (get_or bytes at 0) (take (at + 1 + size - (at + 1)) (drop (at + 1) bytes))
          → Ok (found, at + 1 + size) ≡ request_at bytes at
      complete h found is =
          ap₂ (λ (r : Request) (n : ℕ). Ok (r, n)) is (behind-whole command_kinds bytes at inside size long h)
          ∙ sym (ap (λ n. request_from n at) (next-whole command_kinds bytes at inside size long h))
