-- What stands at an offset of the input, whatever the table of kinds: the cases of `next` by the kind byte there and the count of bytes behind it.
-- Assumes nothing.
use Prim.Native.Nat.{ℕ, suc, ◌+◌, ◌-◌, ◌≤◌, ◌<◌}
use native.Mathlib.Omega.{arith}
use native.Mathlib.Numerals.{add-one}
use borrow.Author.Tests.{le-leb, lt-leb}
use mathlib.Core.Path.{◌≡◌, sym, ap, ap₂, ◌∙◌}
use mathlib.Core.Bool.{Bool, true, false}
use mathlib.Core.Option.{Option, none, some}
use mathlib.Core.List.{List, [], ◌∷◌, ◌++◌}
use lib.ListN.{length, get_or, take, drop, length-drop, length-append, take-append-drop, drop_of_length-le}
use lib.Seq.{drop-cons, length-take-le}
use lib.Dec.{leb}
use Rattle.model.specs.House.{Kinds, lacking, unknown, cut, whole, next, of_kind, body_of}

module _ (kinds : Kinds) (bytes : List ℕ) (at : ℕ) where
  pub next_lacking : length bytes ≤ at → next kinds (drop at bytes) ≡ lacking
  unfolding next
  next_lacking h = rw (drop_of_length-le bytes h)

  module _ (inside : at < length bytes) where
    opened : next kinds (drop at bytes) ≡ of_kind (kinds (get_or bytes at 0)) (get_or bytes at 0) (drop (suc at) bytes)
    unfolding next
    opened = rw (drop-cons bytes at 0 inside)

    pub next_unknown : kinds (get_or bytes at 0) ≡ none → next kinds (drop at bytes) ≡ unknown
    next_unknown e = opened ∙ ap (λ (o : Option ℕ). of_kind o (get_or bytes at 0) (drop (suc at) bytes)) e

    -- a kind that is known, with the length of its body
    module _ (size : ℕ) (long : kinds (get_or bytes at 0) ≡ some size) where
      known : next kinds (drop at bytes) ≡ body_of (leb size (length (drop (suc at) bytes))) (get_or bytes at 0) size (drop (suc at) bytes)
      known = opened ∙ ap (λ (o : Option ℕ). of_kind o (get_or bytes at 0) (drop (suc at) bytes)) long

      pub next-cut : length bytes - at - 1 < size → next kinds (drop at bytes) ≡ cut
      next-cut h =
          let t = lt-leb size (length (drop (suc at) bytes)) (omega (arith, length-drop (suc at) bytes)) in
          known ∙ ap (λ (b : Bool). body_of b (get_or bytes at 0) size (drop (suc at) bytes)) t

      -- the body lies between the byte behind the kind and the place behind the record
      module _ (fits : size ≤ length bytes - at - 1) where
        pub next-whole : next kinds (drop at bytes)
            ≡ whole (get_or bytes at 0) (take (at + 1 + size - (at + 1)) (drop (at + 1) bytes)) (drop size (drop (suc at) bytes))
        next-whole =
            let t = le-leb size (length (drop (suc at) bytes)) (omega (arith, length-drop (suc at) bytes)) in
            let counted : size ≡ at + 1 + size - (at + 1) = omega arith in
            known
            ∙ ap (λ (b : Bool). body_of b (get_or bytes at 0) size (drop (suc at) bytes)) t
            ∙ ap₂ (λ (n k : ℕ). whole (get_or bytes at 0) (take n (drop k bytes)) (drop size (drop (suc at) bytes))) counted (sym (add-one at))

        pub behind-whole : at + 1 + size ≡ at + suc (length (take (at + 1 + size - (at + 1)) (drop (at + 1) bytes)))
        behind-whole =
            omega (
              arith,
              length-drop (at + 1) bytes,
              length-take-le (at + 1 + size - (at + 1)) (drop (at + 1) bytes) (omega (arith, length-drop (at + 1) bytes)),
            )

-- a whole record is a kind, its body and what follows
pub whole_split : (kinds : Kinds) (bytes : List ℕ) (kind : ℕ) (body rest : List ℕ) → next kinds bytes ≡ whole kind body rest → bytes ≡ kind ∷ (body ++ rest)
unfolding next
whole_split kinds [] kind body rest e = let z : ◌≡◌ {A = ℕ} 0 1 = cc in absurd (omega arith)
whole_split kinds (b ∷ bytes) kind body rest e = go (kinds b) e
  where
    inside : (t : Bool) (size : ℕ) → body_of t b size bytes ≡ whole kind body rest → b ∷ bytes ≡ kind ∷ (body ++ rest)
    inside true size q =
        let same_kind : b ≡ kind = cc in
        let same_body : take size bytes ≡ body = cc in
        let same_rest : drop size bytes ≡ rest = cc in
        ap₂ ◌∷◌ same_kind (sym (take-append-drop size bytes) ∙ ap₂ ◌++◌ same_body same_rest)
    inside false size q = let z : ◌≡◌ {A = ℕ} 0 1 = cc in absurd (omega arith)

    go : (o : Option ℕ) → of_kind o b bytes ≡ whole kind body rest → b ∷ bytes ≡ kind ∷ (body ++ rest)
    go none q = let z : ◌≡◌ {A = ℕ} 0 1 = cc in absurd (omega arith)
    go (some size) q = inside (leb size (length bytes)) size q

-- so that its bytes are those of the three
pub whole_length : (kinds : Kinds) (bytes : List ℕ) (kind : ℕ) (body rest : List ℕ) → next kinds bytes ≡ whole kind body rest
    → length bytes ≡ suc (length body + length rest)
whole_length kinds bytes kind body rest e = ap length (whole_split kinds bytes kind body rest e) ∙ ap suc (length-append body rest)
