-- What the reading of a plan answers, for all bytes: accepted or refused exactly when, whatever stands behind the end record, and the checks there
-- come last. Assumes nothing.
use Prim.Native.Nat.{ℕ, zero, suc, ◌+◌, ◌-◌}
use native.Mathlib.Omega.{arith}
use mathlib.Core.Path.{◌≡◌, refl, sym, ap, ◌∙◌}
use mathlib.Core.Logic.{⊎_elim, ◌↔◌}
use mathlib.Core.Bool.{Bool, true, false}
use mathlib.Core.List.{List, [], ◌∷◌, ◌++◌, append_assoc}
use mathlib.Core.Option.{Option, none, some}
use lib.ListN.{length, length-append}
use lib.Dec.{eqb}
use Rattle.model.specs.House.{Next, lacking, unknown, cut, whole, next}
use Rattle.model.specs.Plan.{Record, Levels, record_fault, passes, plan_kinds, bytes_of, records_bytes, encode}
use Rattle.model.specs.Reading.{accepted, refused_at, Ends, unchecked, decoded, finish, keep, take_in, reading_by, read_on, read_with, end_checked}
use Rattle.model.specs.Faults.{fault_at}
use Rattle.model.proofs.FaultLaws.{next_end}
use Rattle.model.proofs.ScanLaws.{stops_at, accepts, read_through, Ended, each_ends}

-- The reading of a plan, whatever the tests of its levels and the checks at its end record

pub encode_rest : (rs : List Record) (rest : List ℕ) → encode rs ++ rest ≡ records_bytes rs ++ (4 ∷ rest)
unfolding encode
encode_rest rs rest = append_assoc (records_bytes rs) (4 ∷ []) rest

pub encode-length : (rs : List Record) → length (encode rs) ≡ length (records_bytes rs) + 1
unfolding encode
encode-length rs = length-append (records_bytes rs) (4 ∷ [])

-- an accepted reading: the bytes begin with the whole of a passing plan that has no fault of its own, and the bytes used are the plan's
pub record Accepting (levels : Levels) (ends : Ends) (bytes : List ℕ) (rs : List Record) (used : ℕ) : Type 0 where
  pub rest : List ℕ
  pub split : bytes ≡ encode rs ++ rest
  pub used_is : used ≡ length (encode rs)
  pub passing : passes levels rs ≡ true
  pub no_fault : ends rs ≡ 0

-- a refused one: the bytes begin with the records of a passing plan and what stands behind those has a fault; the number is the fault's, and the
-- offset is where it stands
pub record Refusing (levels : Levels) (ends : Ends) (bytes : List ℕ) (n at : ℕ) : Type 0 where
  pub records : List Record
  pub tail : List ℕ
  pub split : bytes ≡ records_bytes records ++ tail
  pub at_is : at ≡ length (records_bytes records)
  pub passing : passes levels records ≡ true
  pub fault : fault_at levels ends records tail ≡ n
  pub real : n ≡ 0 → ⊥

module _ (levels : Levels) (ends : Ends) where
  -- behind a passing plan's records
  read_behind : (rs : List Record) (tail : List ℕ) → passes levels rs ≡ true
      → read_with levels ends (records_bytes rs ++ tail) ≡ read_on levels ends (suc (length tail)) rs (length (records_bytes rs)) tail
  read_behind rs tail p =
      read_through levels ends rs tail (suc (length (records_bytes rs ++ tail))) (suc (length tail)) p (omega arith) (omega arith)

  -- and to its end
  read_ends : (bytes : List ℕ) → Ended levels ends bytes (read_with levels ends bytes)
  unfolding records_bytes passes
  read_ends bytes = each_ends levels ends (suc (length bytes)) [] 0 bytes (omega arith) refl refl

  pub read-accepts : (bytes : List ℕ) (rs : List Record) (used : ℕ)
      → (read_with levels ends bytes ≡ accepted rs used) ↔ Accepting levels ends bytes rs used
  read-accepts bytes rs used = (from, into)
    where
      from : read_with levels ends bytes ≡ accepted rs used → Accepting levels ends bytes rs used
      from e =
          let w = read_ends bytes in
          ⊎_elim
          (λ v.
          let same : w.records ≡ rs = cc in
          let size : length (records_bytes w.records) + 1 ≡ used = cc in
          rw (← same)
          record {
            rest = v.0;
            split = w.split ∙ ap (λ (l : List ℕ). records_bytes w.records ++ l) v.1 ∙ sym (encode_rest w.records v.0);
            used_is = sym size ∙ sym (encode-length w.records);
            passing = w.passing;
            no_fault = v.2;
          })
          (λ v. let z : ◌≡◌ {A = ℕ} 0 1 = cc in absurd (omega arith))
          w.verdict

      into : Accepting levels ends bytes rs used → read_with levels ends bytes ≡ accepted rs used
      into g =
          rw (g.split, encode_rest rs g.rest, read_behind rs (4 ∷ g.rest) g.passing, g.used_is, encode-length rs)
          (accepts levels ends (length (4 ∷ g.rest)) rs (length (records_bytes rs)) g.rest g.no_fault)

  pub read_refuses : (bytes : List ℕ) (n at : ℕ) → (read_with levels ends bytes ≡ refused_at n at) ↔ Refusing levels ends bytes n at
  read_refuses bytes n at = (from, into)
    where
      from : read_with levels ends bytes ≡ refused_at n at → Refusing levels ends bytes n at
      from e =
          let w = read_ends bytes in
          ⊎_elim
          (λ v. let z : ◌≡◌ {A = ℕ} 0 1 = cc in absurd (omega arith))
          (λ v.
          let fault : fault_at levels ends w.records w.tail ≡ n = cc in
          record {
            records = w.records;
            tail = w.tail;
            split = w.split;
            at_is = cc;
            passing = w.passing;
            fault = fault;
            real = λ z. v.0 (fault ∙ z);
          })
          w.verdict

      into : Refusing levels ends bytes n at → read_with levels ends bytes ≡ refused_at n at
      into g =
          rw (g.split, read_behind g.records g.tail g.passing, g.at_is, ← g.fault)
          (stops_at levels ends (length g.tail) g.records (length (records_bytes g.records)) g.tail
          (λ z. g.real (sym g.fault ∙ z)))

  -- "bytes after it belong to the caller and do not affect the answer"
  module _ (rs : List Record) (p : passes levels rs ≡ true) where
    read_end : (rest : List ℕ) → read_with levels ends (encode rs ++ rest) ≡ finish (eqb (ends rs) 0) (ends rs) rs (length (records_bytes rs))
    unfolding read_on
    read_end rest = rw (encode_rest rs rest, read_behind rs (4 ∷ rest) p, read_on, next_end rest)

    pub read_beyond : (c d : List ℕ) → read_with levels ends (encode rs ++ c) ≡ read_with levels ends (encode rs ++ d)
    read_beyond c d = read_end c ∙ sym (read_end d)

  -- the checks at the end record come last: a reading is the reading without them, and then they
  abbrev Later : ℕ → Type 0
  Later turns =
      (rs : List Record) (at : ℕ) (tail : List ℕ) → read_on levels ends turns rs at tail ≡ end_checked ends (read_on levels unchecked turns rs at tail)

  checks_last_on : (turns : ℕ) → Later turns
  unfolding read_on
  checks_last_on zero rs at tail = refl
  checks_last_on (suc turns) rs at tail = at_next (next plan_kinds tail) (checks_last_on turns)
    where
      kept : (b : Bool) (r : Record) (rest : List ℕ) → Later turns
          → keep b levels (λ qs to. read_on levels ends turns qs to rest) rs at r
          ≡ end_checked ends (keep b levels (λ qs to. read_on levels unchecked turns qs to rest) rs at r)
      kept true r rest same = same (r ∷ rs) (at + length (bytes_of r)) rest
      kept false r rest same = refl

      at-decoded : (o : Option Record) (rest : List ℕ) → Later turns
          → take_in levels ends (λ qs to. read_on levels ends turns qs to rest) rs at o
          ≡ end_checked ends (take_in levels unchecked (λ qs to. read_on levels unchecked turns qs to rest) rs at o)
      at-decoded none rest same = let back : at + 1 - 1 ≡ at = omega arith in ap (finish (eqb (ends rs) 0) (ends rs) rs) (sym back)
      at-decoded (some r) rest same = kept (eqb (record_fault levels rs r) 0) r rest same

      at_next : (n : Next) → Later turns
          → reading_by levels ends (λ qs to rest. read_on levels ends turns qs to rest) rs at n
          ≡ end_checked ends (reading_by levels unchecked (λ qs to rest. read_on levels unchecked turns qs to rest) rs at n)
      at_next lacking same = refl
      at_next unknown same = refl
      at_next cut same = refl
      at_next (whole kind body rest) same = at-decoded (decoded kind body) rest same

  pub checks_last : (bytes : List ℕ) → read_with levels ends bytes ≡ end_checked ends (read_with levels unchecked bytes)
  checks_last bytes = checks_last_on (suc (length bytes)) [] 0 bytes
