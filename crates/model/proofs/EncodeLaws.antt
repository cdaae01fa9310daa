-- Bytes tell their records apart: two plans whose bytes begin the same bytes are one plan, by the first record and then the rest. Assumes nothing.
use Prim.Native.Nat.{ℕ}
use native.Mathlib.Omega.{arith}
use mathlib.Core.Path.{◌≡◌, refl, sym, ap, ap₂, ◌∙◌}
use mathlib.Core.List.{List, [], ◌∷◌, ◌++◌, append_assoc, reverse_aux, reverse, reverse-reverse}
use mathlib.Core.Option.{none, some}
use Rattle.model.specs.House.{whole, next}
use Rattle.model.specs.Plan.{Record, plan_kinds, bytes_of, records_bytes, encode}
use Rattle.model.specs.Reading.{decoded}
use Rattle.model.proofs.FaultLaws.{next_record, next_end}
use Rattle.model.proofs.ReadingLaws.{encode_rest}

-- the bytes of records that stand the earliest first
abbrev onto : List Record → List ℕ → List ℕ
onto [] rest = rest
onto (r ∷ rs) rest = bytes_of r ++ onto rs rest

onto_turned : (rs qs : List Record) (rest : List ℕ) → onto (reverse_aux rs qs) rest ≡ records_bytes rs ++ onto qs rest
unfolding records_bytes
onto_turned [] qs rest = refl
onto_turned (r ∷ rs) qs rest = onto_turned rs (r ∷ qs) rest ∙ sym (append_assoc (records_bytes rs) (bytes_of r) (onto qs rest))

same_whole : (k l : ℕ) (a b c d : List ℕ) → whole k a c ≡ whole l b d → (decoded k a ≡ decoded l b) × (c ≡ d)
same_whole k l a b c d e = let kind : k ≡ l = cc in let body : a ≡ b = cc in (ap₂ decoded kind body, (cc))

record_first : (r q : Record) (c d : List ℕ) → bytes_of r ++ c ≡ bytes_of q ++ d → (r ≡ q) × (c ≡ d)
record_first r q c d e =
    let w = next_record r c in
    let v = next_record q d in
    let same = same_whole w.kind v.kind w.body v.body c d (sym w.next_is ∙ ap (next plan_kinds) e ∙ v.next_is) in
    let told : some r ≡ some q = sym w.decodes ∙ same.0 ∙ v.decodes in
    ((cc), same.1)

never_end : (r : Record) (c d : List ℕ) → bytes_of r ++ c ≡ 4 ∷ d → ⊥
never_end r c d e =
    let w = next_record r c in
    let told : some r ≡ none = sym w.decodes ∙ (same_whole w.kind 4 w.body [] c d (sym w.next_is ∙ ap (next plan_kinds) e ∙ next_end d)).0 in
    let z : ◌≡◌ {A = ℕ} 0 1 = cc in
    omega arith

onto_same : (rs qs : List Record) (c d : List ℕ) → onto rs (4 ∷ c) ≡ onto qs (4 ∷ d) → (rs ≡ qs) × (c ≡ d)
onto_same [] [] c d e = (refl, (cc))
onto_same [] (q ∷ qs) c d e = absurd (never_end q (onto qs (4 ∷ d)) c (sym e))
onto_same (r ∷ rs) [] c d e = absurd (never_end r (onto rs (4 ∷ c)) d e)
onto_same (r ∷ rs) (q ∷ qs) c d e =
    let w = record_first r q (onto rs (4 ∷ c)) (onto qs (4 ∷ d)) e in
    let v = onto_same rs qs c d w.1 in
    (ap₂ ◌∷◌ w.0 v.0, v.1)

pub encode_injective : (rs qs : List Record) (c d : List ℕ) → encode rs ++ c ≡ encode qs ++ d → (rs ≡ qs) × (c ≡ d)
encode_injective rs qs c d e =
    let w = onto_same (reverse rs) (reverse qs) c d
    (onto_turned rs [] (4 ∷ c) ∙ sym (encode_rest rs c) ∙ e ∙ encode_rest qs d ∙ sym (onto_turned qs [] (4 ∷ d))) in
    (sym (reverse-reverse rs) ∙ ap reverse w.0 ∙ reverse-reverse qs, w.1)
