-- When each number of document 01's table of plan faults is given: the bytes behind the records read so far are of one of five kinds, and of the
-- checks on a record or on the whole plan the first that fails decides. Assumes nothing.
use Prim.Native.Nat.{ℕ, zero, suc, ◌≤◌, ◌<◌}
use native.Mathlib.Omega.{arith}
use mathlib.Core.Path.{◌≡◌, refl, sym, ap, subst, ◌∙◌}
use mathlib.Core.Logic.{◌⊎◌, inl, inr, ⊎_elim, ◌↔◌}
use mathlib.Core.Bool.{Bool, true, false, not}
use mathlib.Core.List.{List, [], ◌∷◌, ◌++◌}
use mathlib.Core.Option.{some}
use lib.ListN.{length}
use lib.Dec.{eqb}
use borrow.Author.Tests.{ne_eqb, le-leb, lt-leb, not-true, not-false}
use Rattle.model.specs.House.{unknown, cut, whole, next}
use Rattle.model.specs.Plan.{Record, site, node, edge, Levels, six, follows, in_range, known, level_below, room_for, record_fault, loops}
use Rattle.model.specs.Plan.{self_depends, end_fault, plan_kinds, bytes_of}
use Rattle.model.specs.Reading.{Ends, decoded}
use Rattle.model.proofs.TestLaws.{absent, lone, absent_never, first_fault-is}
use Rattle.model.specs.Faults.{fault_at, Fault, no_kind, strange_kind, short_body, of_record, of_plan, Given}

-- What stands where a record is due

-- bytes that begin with a record: its kind and its body stand there
pub record Begins (r : Record) (rest : List ℕ) : Type 0 where
  pub kind : ℕ
  pub body : List ℕ
  pub next_is : next plan_kinds (bytes_of r ++ rest) ≡ whole kind body rest
  pub decodes : decoded kind body ≡ some r

pub next_record : (r : Record) (rest : List ℕ) → Begins r rest
unfolding next bytes_of
next_record (site s t) rest =
    record { kind = 1; body = s ∷ t ∷ []; next_is = simp (le-leb 2 (suc (suc (length rest))) (omega arith)); decodes = refl }
next_record (node n s l) rest =
    record { kind = 2; body = n ∷ s ∷ l ∷ []; next_is = simp (le-leb 3 (suc (suc (suc (length rest)))) (omega arith)); decodes = refl }
next_record (edge c d) rest =
    record { kind = 3; body = c ∷ d ∷ []; next_is = simp (le-leb 2 (suc (suc (length rest))) (omega arith)); decodes = refl }

pub next_end : (rest : List ℕ) → next plan_kinds (4 ∷ rest) ≡ whole 4 [] rest
unfolding next
next_end rest = simp (le-leb 0 (length rest) (omega arith))

next_strange : (kind : ℕ) (rest : List ℕ) → (kind < 1) ⊎ (4 < kind) → next plan_kinds (kind ∷ rest) ≡ unknown
unfolding next
next_strange kind rest out =
    simp (
      differs 1 (omega arith) (omega arith),
      differs 2 (omega arith) (omega arith),
      differs 3 (omega arith) (omega arith),
      differs 4 (omega arith) (omega arith),
    )
  where
    differs : (k : ℕ) → 1 ≤ k → k ≤ 4 → eqb kind k ≡ false
    differs k low high = ne_eqb kind k (λ e. ⊎_elim (λ (p : kind < 1). omega arith) (λ (p : 4 < kind). omega arith) out)

next_short : (kind size : ℕ) (rest : List ℕ) → plan_kinds kind ≡ some size → length rest < size → next plan_kinds (kind ∷ rest) ≡ cut
unfolding next
next_short kind size rest e h = rw (e, lt-leb size (length rest) h)

module _ (levels : Levels) (ends : Ends) (rs : List Record) where
  -- each case gives the number that it names
  case_fault : {tail : List ℕ} {n : ℕ} → Fault levels ends rs tail n → fault_at levels ends rs tail ≡ n
  unfolding fault_at next
  case_fault (no_kind e q) = rw (e, q)
  case_fault (strange_kind kind rest e out q) = rw (e, q, next_strange kind rest out)
  case_fault (short_body kind size rest e given h q) = rw (e, q, next_short kind size rest given h)
  case_fault (of_record r rest e q) = let w = next_record r rest in rw (e, w.next_is, w.decodes, q)
  case_fault (of_plan rest e q) = rw (e, next_end rest, q)

  -- and bytes are always of some case
  pair_case : (kind : ℕ) (make : ℕ → ℕ → Record) → plan_kinds kind ≡ some 2 → ((a b : ℕ) → kind ∷ a ∷ b ∷ [] ≡ bytes_of (make a b))
      → (rest : List ℕ) → (n : ℕ) × Fault levels ends rs (kind ∷ rest) n
  pair_case kind make size same [] = (1, short_body kind 2 [] refl size (omega arith) refl)
  pair_case kind make size same (a ∷ []) = (1, short_body kind 2 (a ∷ []) refl size (omega arith) refl)
  pair_case kind make size same (a ∷ b ∷ rest) =
      (record_fault levels rs (make a b), of_record (make a b) rest (ap (λ (l : List ℕ). l ++ rest) (same a b)) refl)

  some_case : (tail : List ℕ) → (n : ℕ) × Fault levels ends rs tail n
  unfolding bytes_of
  some_case [] = (1, no_kind refl refl)
  some_case (zero ∷ rest) = (2, strange_kind 0 rest refl (inl (omega arith)) refl)
  some_case (suc zero ∷ rest) = pair_case 1 site refl (λ a b. refl) rest
  some_case (suc (suc zero) ∷ []) = (1, short_body 2 3 [] refl refl (omega arith) refl)
  some_case (suc (suc zero) ∷ a ∷ []) = (1, short_body 2 3 (a ∷ []) refl refl (omega arith) refl)
  some_case (suc (suc zero) ∷ a ∷ b ∷ []) = (1, short_body 2 3 (a ∷ b ∷ []) refl refl (omega arith) refl)
  some_case (suc (suc zero) ∷ a ∷ b ∷ c ∷ rest) = (record_fault levels rs (node a b c), of_record (node a b c) rest refl refl)
  some_case (suc (suc (suc zero)) ∷ rest) = pair_case 3 edge refl (λ a b. refl) rest
  some_case (suc (suc (suc (suc zero))) ∷ rest) = (ends rs, of_plan rest refl refl)
  some_case (suc (suc (suc (suc (suc k)))) ∷ rest) = (2, strange_kind (suc (suc (suc (suc (suc k))))) rest refl (inr (omega arith)) refl)

  -- so the number of the decision is that of the case
  pub fault_is : (tail : List ℕ) (n : ℕ) → (fault_at levels ends rs tail ≡ n) ↔ Fault levels ends rs tail n
  fault_is tail n =
      let w = some_case tail in
      ((λ e. subst (Fault levels ends rs tail) (sym (case_fault w.1) ∙ e) w.1), case_fault)

-- The numbers of a record, by its tests in their order
module _ (rs : List Record) (r : Record) where
  abbrev record_tests : List (Bool × ℕ)
  record_tests = (follows rs r, 3) ∷ (in_range r, 4) ∷ (known rs r, 5) ∷ (level_below rs r, 6) ∷ (room_for rs r, 9) ∷ []

  record_given : (n : ℕ) → lone n record_tests ≡ true → (record_fault six rs r ≡ n) ↔ Given n record_tests
  unfolding record_fault
  record_given n l = first_fault-is n record_tests l

  record_never : (n : ℕ) → absent n record_tests ≡ true → record_fault six rs r ≡ n → ⊥
  unfolding record_fault
  record_never n a e = absent_never n record_tests a e

  pub record_3 : (record_fault six rs r ≡ 3) ↔ (follows rs r ≡ false)
  record_3 = record_given 3 refl

  pub record_4 : (record_fault six rs r ≡ 4) ↔ (follows rs r ≡ true) × (in_range r ≡ false)
  record_4 = record_given 4 refl

  pub record_5 : (record_fault six rs r ≡ 5) ↔ (follows rs r ≡ true) × ((in_range r ≡ true) × (known rs r ≡ false))
  record_5 = record_given 5 refl

  pub record_6 : (record_fault six rs r ≡ 6)
      ↔ (follows rs r ≡ true) × ((in_range r ≡ true) × ((known rs r ≡ true) × (level_below rs r ≡ false)))
  record_6 = record_given 6 refl

  pub record_9 : (record_fault six rs r ≡ 9)
      ↔ (follows rs r ≡ true) × ((in_range r ≡ true) × ((known rs r ≡ true) × ((level_below rs r ≡ true) × (room_for rs r ≡ false))))
  record_9 = record_given 9 refl

-- The numbers of the whole plan, likewise
module _ (rs : List Record) where
  abbrev plan_tests : List (Bool × ℕ)
  plan_tests = (not (loops rs), 7) ∷ (not (self_depends rs), 8) ∷ []

  plan_given : (n : ℕ) → lone n plan_tests ≡ true → (end_fault rs ≡ n) ↔ Given n plan_tests
  unfolding end_fault
  plan_given n l = first_fault-is n plan_tests l

  plan_never : (n : ℕ) → absent n plan_tests ≡ true → end_fault rs ≡ n → ⊥
  unfolding end_fault
  plan_never n a e = absent_never n plan_tests a e

  pub plan_7 : (end_fault rs ≡ 7) ↔ (loops rs ≡ true)
  plan_7 = let w = plan_given 7 refl in ((λ e. not-false (loops rs) (w.0 e)), (λ h. w.1 (ap not h)))

  pub plan_8 : (end_fault rs ≡ 8) ↔ (loops rs ≡ false) × (self_depends rs ≡ true)
  plan_8 =
      let w = plan_given 8 refl in
      ((λ e. (not-true (loops rs) (w.0 e).0, not-false (self_depends rs) (w.0 e).1)), (λ h. w.1 (ap not h.0, ap not h.1)))

  pub plan_sound : (end_fault rs ≡ 0) ↔ (loops rs ≡ false) × (self_depends rs ≡ false)
  plan_sound =
      let w = plan_given 0 refl in
      ((λ e. (not-true (loops rs) (w.0 e).0, not-true (self_depends rs) (w.0 e).1.0)), (λ h. w.1 (ap not h.0, (ap not h.1, refl))))

-- The numbers of the bytes behind the records rs
module _ (rs : List Record) (tail : List ℕ) where
  -- 1, "the input ends where a kind byte or a body byte is due"
  abbrev EndsEarly : Type 0
  EndsEarly = (tail ≡ []) ⊎ ((kind : ℕ) × (size : ℕ) × (rest : List ℕ) × (tail ≡ kind ∷ rest) × (plan_kinds kind ≡ some size) × (length rest < size))

  pub bytes_1 : (fault_at six end_fault rs tail ≡ 1) ↔ EndsEarly
  bytes_1 = (
    (λ e. go ((fault_is six end_fault rs tail 1).0 e)),
    (λ h. case_fault six end_fault rs (⊎_elim (λ e. no_kind e refl) (λ w. short_body w.0 w.1 w.2 w.3 w.4 w.5 refl) h)),
  )
    where
      go : Fault six end_fault rs tail 1 → EndsEarly
      go (no_kind e q) = inl e
      go (strange_kind kind rest e out q) = absurd (omega arith)
      go (short_body kind size rest e given h q) = inr (kind, size, rest, e, given, h)
      go (of_record r rest e q) = absurd (record_never rs r 1 refl q)
      go (of_plan rest e q) = absurd (plan_never rs 1 refl q)

  -- 2, "the kind is not 1 to 4"
  abbrev Strange : Type 0
  Strange = (kind : ℕ) × (rest : List ℕ) × (tail ≡ kind ∷ rest) × ((kind < 1) ⊎ (4 < kind))

  pub bytes_2 : (fault_at six end_fault rs tail ≡ 2) ↔ Strange
  bytes_2 = ((λ e. go ((fault_is six end_fault rs tail 2).0 e)), (λ w. case_fault six end_fault rs (strange_kind w.0 w.1 w.2 w.3 refl)))
    where
      go : Fault six end_fault rs tail 2 → Strange
      go (no_kind e q) = absurd (omega arith)
      go (strange_kind kind rest e out q) = (kind, rest, e, out)
      go (short_body kind size rest e given h q) = absurd (omega arith)
      go (of_record r rest e q) = absurd (record_never rs r 2 refl q)
      go (of_plan rest e q) = absurd (plan_never rs 2 refl q)

  -- every other number comes from a record or from the whole plan: one that no plan gives from a record, and the other way round
  module _ (n : ℕ) (not-1 : n ≡ 1 → ⊥) (not-2 : n ≡ 2 → ⊥) where
    abbrev AtRecord : Type 0
    AtRecord = (r : Record) × (rest : List ℕ) × (tail ≡ bytes_of r ++ rest) × (record_fault six rs r ≡ n)

    abbrev AtEnd : Type 0
    AtEnd = (rest : List ℕ) × (tail ≡ 4 ∷ rest) × (end_fault rs ≡ n)

    other : Fault six end_fault rs tail n → AtRecord ⊎ AtEnd
    other (no_kind e q) = absurd (not-1 q)
    other (strange_kind kind rest e out q) = absurd (not-2 q)
    other (short_body kind size rest e given h q) = absurd (not-1 q)
    other (of_record r rest e q) = inl (r, rest, e, q)
    other (of_plan rest e q) = inr (rest, e, q)

    pub bytes_record : absent n (plan_tests rs) ≡ true → (fault_at six end_fault rs tail ≡ n) ↔ AtRecord
    bytes_record a = (
      (λ e. ⊎_elim (λ w. w) (λ w. absurd (plan_never rs n a w.2)) (other ((fault_is six end_fault rs tail n).0 e))),
      (λ w. case_fault six end_fault rs (of_record w.0 w.1 w.2 w.3)),
    )

    pub bytes_plan : ((r : Record) → absent n (record_tests rs r) ≡ true) → (fault_at six end_fault rs tail ≡ n) ↔ AtEnd
    bytes_plan a = (
      (λ e. ⊎_elim (λ w. absurd (record_never rs w.0 n (a w.0) w.3)) (λ w. w) (other ((fault_is six end_fault rs tail n).0 e))),
      (λ w. case_fault six end_fault rs (of_plan w.0 w.1 w.2)),
    )
