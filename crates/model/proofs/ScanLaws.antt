-- The turns of a reading: one turn either stops with the fault of its place or goes on behind a sound record, so that the reading of a passing
-- plan's bytes is the reading of what stands behind them. Assumes nothing.
use Prim.Native.Nat.{ℕ, zero, suc, ◌+◌, ◌<◌}
use native.Mathlib.Nat.{not-suc-le-zero}
use native.Mathlib.Omega.{arith}
use mathlib.Core.Path.{◌≡◌, refl, sym, ap, ◌∙◌}
use mathlib.Core.Logic.{◌⊎◌, inl, inr, ⊎_elim, ◌↔◌}
use mathlib.Core.Bool.{true}
use mathlib.Core.List.{List, [], ◌∷◌, ◌++◌, append_assoc}
use mathlib.Core.Option.{Option, none, some}
use lib.ListN.{length, length-append}
use lib.Dec.{eqb}
use borrow.Author.Tests.{eqb-true, eqb-false, eq-eqb, ne_eqb}
use Rattle.lists.proofs.CountLaws.{true_or_false, and_left, and_right, and_both}
use Rattle.model.specs.House.{Next, lacking, unknown, cut, whole, next}
use Rattle.model.specs.Plan.{Record, site, node, edge, Levels, record_fault, passes, plan_kinds, bytes_of, records_bytes}
use Rattle.model.specs.Reading.{Reading, accepted, refused_at, Ends, decoded, take_in, reading_by, read_on}
use Rattle.model.specs.Faults.{fault_decoded, fault_next, fault_at, Fault, no_kind, strange_kind, short_body, of_record, of_plan}
use Rattle.model.proofs.FaultLaws.{next_record, next_end, fault_is}

-- a record has a byte at least
shorter : (r : Record) (rest tail : List ℕ) → tail ≡ bytes_of r ++ rest → length rest < length tail
unfolding bytes_of
shorter (site s t) rest tail e = rw e (omega arith)
shorter (node n s l) rest tail e = rw e (omega arith)
shorter (edge c d) rest tail e = rw e (omega arith)

module _ (levels : Levels) where
  -- a plan passes when what stands behind its latest record does, and that record has no fault there
  pub passes-step : (r : Record) (rs : List Record) → (passes levels (r ∷ rs) ≡ true) ↔ (passes levels rs ≡ true) × (record_fault levels rs r ≡ 0)
  unfolding passes
  passes-step r rs = (
    (λ p. (
      and_left (passes levels rs) (eqb (record_fault levels rs r) 0) p,
      eqb-true (record_fault levels rs r) 0 (and_right (passes levels rs) (eqb (record_fault levels rs r) 0) p),
    )),
    (λ h. and_both (passes levels rs) (eqb (record_fault levels rs r) 0) h.0 (eq-eqb (record_fault levels rs r) 0 h.1)),
  )

module _ (levels : Levels) (ends : Ends) where
  -- One turn

  -- a fault stops it
  stop_of : (go : List Record → ℕ → Reading) (rs : List Record) (at : ℕ) (o : Option Record)
      → (fault_decoded levels ends rs o ≡ 0 → ⊥) → take_in levels ends go rs at o ≡ refused_at (fault_decoded levels ends rs o) at
  stop_of go rs at none h = rw (ne_eqb (ends rs) 0 h)
  stop_of go rs at (some r) h = rw (ne_eqb (record_fault levels rs r) 0 h)

  stop_in : (go : List Record → ℕ → List ℕ → Reading) (rs : List Record) (at : ℕ) (next : Next)
      → (fault_next levels ends rs next ≡ 0 → ⊥) → reading_by levels ends go rs at next ≡ refused_at (fault_next levels ends rs next) at
  stop_in go rs at lacking h = refl
  stop_in go rs at unknown h = refl
  stop_in go rs at cut h = refl
  stop_in go rs at (whole kind body rest) h = stop_of (λ qs to. go qs to rest) rs at (decoded kind body) h

  pub stops_at : (turns : ℕ) (rs : List Record) (at : ℕ) (tail : List ℕ)
      → (fault_at levels ends rs tail ≡ 0 → ⊥) → read_on levels ends (suc turns) rs at tail ≡ refused_at (fault_at levels ends rs tail) at
  unfolding read_on fault_at
  stops_at turns rs at tail h = stop_in (λ qs to rest. read_on levels ends turns qs to rest) rs at (next plan_kinds tail) h

  -- a sound record is taken in
  goes_on : (turns : ℕ) (rs : List Record) (at : ℕ) (r : Record) (rest : List ℕ) → record_fault levels rs r ≡ 0
      → read_on levels ends (suc turns) rs at (bytes_of r ++ rest) ≡ read_on levels ends turns (r ∷ rs) (at + length (bytes_of r)) rest
  unfolding read_on
  goes_on turns rs at r rest h = let w = next_record r rest in rw (w.next_is, w.decodes, eq-eqb (record_fault levels rs r) 0 h)

  -- the end record of a sound plan
  pub accepts : (turns : ℕ) (rs : List Record) (at : ℕ) (rest : List ℕ) → ends rs ≡ 0
      → read_on levels ends (suc turns) rs at (4 ∷ rest) ≡ accepted rs (at + 1)
  unfolding read_on
  accepts turns rs at rest h = rw (next_end rest, eq-eqb (ends rs) 0 h)

  -- and there is nothing else
  data Turn (rs : List Record) (tail : List ℕ) : Type 0 where
    faulty : (fault_at levels ends rs tail ≡ 0 → ⊥) → Turn rs tail
    sound : (r : Record) (rest : List ℕ) → tail ≡ bytes_of r ++ rest → record_fault levels rs r ≡ 0 → Turn rs tail
    ended : (rest : List ℕ) → tail ≡ 4 ∷ rest → ends rs ≡ 0 → Turn rs tail

  each_turn : (rs : List Record) (tail : List ℕ) → Turn rs tail
  each_turn rs tail =
      ⊎_elim
      (λ p. go ((fault_is levels ends rs tail 0).0 (eqb-true (fault_at levels ends rs tail) 0 p)))
      (λ p. faulty (eqb-false (fault_at levels ends rs tail) 0 p))
      (true_or_false (eqb (fault_at levels ends rs tail) 0))
    where
      go : Fault levels ends rs tail 0 → Turn rs tail
      go (no_kind e q) = absurd (omega arith)
      go (strange_kind kind rest e out q) = absurd (omega arith)
      go (short_body kind size rest e given h q) = absurd (omega arith)
      go (of_record r rest e q) = sound r rest e q
      go (of_plan rest e q) = ended rest e q

  -- Turns

  -- more turns than bytes read the same, however many there are
  pub turns_enough : (t u : ℕ) (rs : List Record) (at : ℕ) (tail : List ℕ)
      → length tail < t → length tail < u → read_on levels ends t rs at tail ≡ read_on levels ends u rs at tail
  turns_enough zero u rs at tail p q = absurd (not-suc-le-zero p)
  turns_enough (suc t) zero rs at tail p q = absurd (not-suc-le-zero q)
  turns_enough (suc t) (suc u) rs at tail p q = go (each_turn rs tail) (turns_enough t u)
    where
      go : Turn rs tail
          → ((qs : List Record) (to : ℕ) (rest : List ℕ) → length rest < t → length rest < u
          → read_on levels ends t qs to rest ≡ read_on levels ends u qs to rest)
          → read_on levels ends (suc t) rs at tail ≡ read_on levels ends (suc u) rs at tail
      go (faulty h) ih = stops_at t rs at tail h ∙ sym (stops_at u rs at tail h)
      go (sound r rest e h) ih =
          let less = shorter r rest tail e in
          rw e
          (goes_on t rs at r rest h
          ∙ ih (r ∷ rs) (at + length (bytes_of r)) rest (omega arith) (omega arith)
          ∙ sym (goes_on u rs at r rest h))
      go (ended rest e h) ih = rw e (accepts t rs at rest h ∙ sym (accepts u rs at rest h))

  -- the reading of a passing plan's bytes is the reading of what stands behind them
  pub read_through : (rs : List Record) (tail : List ℕ) (t u : ℕ)
      → passes levels rs ≡ true → length (records_bytes rs ++ tail) < t → length tail < u
      → read_on levels ends t [] 0 (records_bytes rs ++ tail) ≡ read_on levels ends u rs (length (records_bytes rs)) tail
  unfolding records_bytes
  read_through [] tail t u p h l = turns_enough t u [] 0 tail h l
  read_through (r ∷ rs) tail t u p h l =
      let due = bytes_of r ++ tail in
      let at = length (records_bytes rs) in
      let w = (passes-step levels r rs).0 p in
      rw (append_assoc, length-append)
      (read_through rs due t (suc (length due)) w.0 (rw append_assoc at h) (omega arith)
      ∙ goes_on (length due) rs at r tail w.1
      ∙ turns_enough (length due) u (r ∷ rs) (at + length (bytes_of r)) tail (shorter r tail due refl) l)

  -- Where a reading ends
  pub record Ended (bytes : List ℕ) (answer : Reading) : Type 0 where
    pub records : List Record
    pub tail : List ℕ
    pub split : bytes ≡ records_bytes records ++ tail
    pub passing : passes levels records ≡ true
    pub verdict :
        ((rest : List ℕ) × (tail ≡ 4 ∷ rest) × (ends records ≡ 0) × (answer ≡ accepted records (length (records_bytes records) + 1)))
        ⊎ ((fault_at levels ends records tail ≡ 0 → ⊥) × (answer ≡ refused_at (fault_at levels ends records tail) (length (records_bytes records))))

  pub each_ends : (turns : ℕ) (rs : List Record) (at : ℕ) (tail : List ℕ)
      → length tail < turns → at ≡ length (records_bytes rs) → passes levels rs ≡ true
      → Ended (records_bytes rs ++ tail) (read_on levels ends turns rs at tail)
  unfolding records_bytes
  each_ends zero rs at tail h a p = absurd (not-suc-le-zero h)
  each_ends (suc turns) rs at tail h a p = go (each_turn rs tail) (each_ends turns)
    where
      go : Turn rs tail
          → ((qs : List Record) (to : ℕ) (rest : List ℕ)
          → length rest < turns → to ≡ length (records_bytes qs) → passes levels qs ≡ true
          → Ended (records_bytes qs ++ rest) (read_on levels ends turns qs to rest))
          → Ended (records_bytes rs ++ tail) (read_on levels ends (suc turns) rs at tail)
      go (faulty f) ih =
          record {
            records = rs;
            tail = tail;
            split = refl;
            passing = p;
            verdict = inr (f, stops_at turns rs at tail f ∙ ap (refused_at (fault_at levels ends rs tail)) a);
          }
      go (sound r rest e f) ih =
          let less = shorter r rest tail e in
          rw (e, goes_on turns rs at r rest f, ← append_assoc)
          (ih (r ∷ rs) (at + length (bytes_of r)) rest (omega arith) (simp length-append (omega arith)) ((passes-step levels r rs).1 (p, f)))
      go (ended rest e f) ih =
          record {
            records = rs;
            tail = tail;
            split = refl;
            passing = p;
            verdict = inl (rest, e, f, rw e (accepts turns rs at rest f ∙ ap (λ (n : ℕ). accepted rs (n + 1)) a));
          }
