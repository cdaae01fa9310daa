-- Bytes put one after the other: what is put behind a text makes a longer text. Assumes nothing.
use Prim.Native.Nat.{ℕ, suc, ◌+◌, ◌≤◌, ◌<◌}
use native.Mathlib.Omega.{arith}
use mathlib.Core.Path.{◌≡◌, refl, ap, ◌∙◌}
use mathlib.Core.List.{List, [], ◌∷◌, ◌++◌}
use lib.ListN.{length, set, take, drop, length-append, length-set, get_or}
use Rattle.std.proofs.Math.Seq.{take-suc}
use lib.Seq.{sets, length-sets, sets-eq, take_at, length-take-le}
use Rattle.text.specs.Put.{Put}

sets_behind : (xs ys l : List ℕ) (at next : ℕ) → next ≡ at + length xs → sets (sets l at xs) next ys ≡ sets l at (xs ++ ys)
sets_behind [] ys l at next e = ap (λ (n : ℕ). sets l n ys) (omega arith)
sets_behind (x ∷ xs) ys l at next e = sets_behind xs ys (set l at x) (suc at) next (omega arith)

pub put_none : (old : List ℕ) (at : ℕ) → at ≤ length old → Put old at [] old at
put_none old at h = record { written = refl; end_is = omega arith; inside = h }

-- one text behind the other
pub put_then : {old mid new : List ℕ} {at m to : ℕ} {xs ys : List ℕ} → Put old at xs mid m → Put mid m ys new to → Put old at (xs ++ ys) new to
put_then {old} {mid} {new} {at} {m} {to} {xs} {ys} p q =
    record {
      written = q.written ∙ ap (λ (l : List ℕ). sets l m ys) p.written ∙ sets_behind xs ys old at m p.end_is;
      end_is = omega (arith, p.end_is, q.end_is, length-append xs ys);
      inside = q.inside;
    }

-- one byte behind a text
pub put_store : {old mid : List ℕ} {at m : ℕ} {xs : List ℕ} (place b to : ℕ) → place ≡ m → to ≡ place + 1 → place < length mid → Put old at xs mid m
    → Put old at (xs ++ (b ∷ [])) (set mid place b) to
put_store {old} {mid} place b to here next room p =
    put_then p
    (record { written = ap (λ (n : ℕ). set mid n b) here; end_is = omega arith; inside = simp length-set (omega arith) })

-- the same text, otherwise written
pub put_as : {old new : List ℕ} {at to : ℕ} {vs ws : List ℕ} → vs ≡ ws → Put old at vs new to → Put old at ws new to
put_as {old} {new} {at} e p =
    record {
      written = p.written ∙ ap (sets old at) e;
      end_is = p.end_is ∙ ap (λ (l : List ℕ). at + length l) e;
      inside = p.inside;
    }

-- the buffer stays as long as it is
pub put_long : {old new : List ℕ} {at to : ℕ} {vs : List ℕ} → Put old at vs new to → length new ≡ length old
put_long {old} {new} {at} {to} {vs} p = ap length p.written ∙ length-sets old at vs

-- and what room is left behind a text of so many bytes at the most
pub room_left : {old new : List ℕ} {at to : ℕ} {vs : List ℕ} (most more : ℕ) → Put old at vs new to → length vs ≤ most
    → at + (most + more) ≤ length old → to + more ≤ length new
room_left most more p few room = omega (arith, put_long p, p.end_is)

-- so that the text stands behind what stood before it
pub put_stands : {old new : List ℕ} {at to : ℕ} {vs : List ℕ} → Put old at vs new to → take to new ≡ take at old ++ vs
put_stands {old} {new} {at} {to} {vs} p =
    let room : at + length vs ≤ length old = omega (arith, put_long p, p.end_is, p.inside) in
    let front : length (take at old ++ vs) ≡ to
    = length-append (take at old) vs ∙ ap (λ (n : ℕ). n + length vs) (length-take-le at old (omega arith)) ∙ omega (arith, p.end_is) in
    ap (take to) (p.written ∙ sets-eq vs old at room) ∙ take_at (take at old ++ vs) (drop (at + length vs) old) to front

-- Stores one after the other

pub put_1 : (old : List ℕ) (at a : ℕ) → at + 1 ≤ length old → Put old at (a ∷ []) (set old at a) (at + 1)
put_1 old at a room = put_store at a (at + 1) refl refl (omega arith) (put_none old at (omega arith))

module _ (old : List ℕ) (at a b : ℕ) where
  pub put_2 : at + 2 ≤ length old → Put old at (a ∷ b ∷ []) (set (set old at a) (at + 1) b) (at + 2)
  put_2 room = put_store (at + 1) b (at + 2) refl (omega arith) (simp length-set (omega arith)) (put_1 old at a (omega arith))

  module _ (c : ℕ) where
    pub put_3 : at + 3 ≤ length old → Put old at (a ∷ b ∷ c ∷ []) (set (set (set old at a) (at + 1) b) (at + 2) c) (at + 3)
    put_3 room = put_store (at + 2) c (at + 3) refl (omega arith) (simp length-set (omega arith)) (put_2 (omega arith))

    module _ (d : ℕ) where
      pub put_4 : at + 4 ≤ length old → Put old at (a ∷ b ∷ c ∷ d ∷ []) (set (set (set (set old at a) (at + 1) b) (at + 2) c) (at + 3) d) (at + 4)
      put_4 room = put_store (at + 3) d (at + 4) refl (omega arith) (simp length-set (omega arith)) (put_3 (omega arith))

-- the first bytes and the one behind them
pub take_next : (bytes : List ℕ) (i : ℕ) → i < length bytes → take (i + 1) bytes ≡ take i bytes ++ (get_or bytes i 0 ∷ [])
take_next bytes i inside = let same : i + 1 ≡ suc i = omega arith in ap (λ (n : ℕ). take n bytes) same ∙ take-suc bytes i 0 inside
