-- Every line of the level sheet holds of the definitions: one test that antt computes over the whole table, and a lemma that turns it into
-- what each line says. Assumes nothing.
use Prim.Native.Nat.{ℕ}
use mathlib.Core.Path.{◌≡◌, refl, ap₂}
use mathlib.Core.Bool.{Bool, true, false, ◌&&◌}
use mathlib.Core.List.{List, [], ◌∷◌}
use lib.Dec.{eqb}
use borrow.Author.Tests.{eqb-true}
use Rattle.lists.proofs.CountLaws.{never_both, and_left, and_right}
use Rattle.ids.specs.Made.{Told}
use Rattle.lists.specs.Count.{first, last}
use Rattle.model.specs.Site.{A, lawful, raised, may_admit, full, limit, blocking, admitted, room, refuses_site}
use Rattle.model.specs.Answers.{firmware, admission_answer}
use Rattle.model.specs.LevelSheet.{Case, site, waits, rooms, plan, counts_of, rooms_of, Holds, table}
use Rattle.model.specs.House.{next}
use Rattle.model.specs.Plan.{threads, place, has_edge, edges, follows, in_range, known, level_below}
use Rattle.model.specs.Plan.{room_for, record_fault, site_steps, listed, closed_backwards, loops, self_depends, end_fault, bytes_of}
use Rattle.model.specs.Reading.{read, read_on}
use Rattle.model.specs.PlanValue.{reading_told}

told_is : Told → Told → Bool
told_is [] [] = true
told_is [] (n ∷ ns) = false
told_is (b ∷ bs) [] = false
told_is (b ∷ bs) (n ∷ ns) = eqb b n && told_is bs ns

told_exactly : (bs ns : Told) → told_is bs ns ≡ true → bs ≡ ns
unfolding told_is
told_exactly [] [] e = refl
told_exactly [] (n ∷ ns) e = absurd (never_both e refl)
told_exactly (b ∷ bs) [] e = absurd (never_both e refl)
told_exactly (b ∷ bs) (n ∷ ns) e =
    ap₂ (λ (x : ℕ) (xs : Told). x ∷ xs) (eqb-true b n (and_left (eqb b n) (told_is bs ns) e)) (told_exactly bs ns (and_right (eqb b n) (told_is bs ns) e))

test : Case → Bool
test (site threads active number) = eqb (firmware threads (counts_of active)) number
test (waits threads active asked blocked_by) = told_is (admission_answer threads (counts_of active) asked) (0 ∷ 0 ∷ blocked_by ∷ [])
test (rooms threads active all) = told_is (rooms_of threads (counts_of active) threads 0) all
test (plan bytes number place) = told_is (reading_told (read bytes)) (number ∷ place ∷ [])

tests : List Case → Bool
tests [] = true
tests (c ∷ cs) = test c && tests cs

-- every line of a table holds
abbrev pub All : List Case → Type 0
All [] = Unit {0}
All (c ∷ cs) = Holds c × All cs

passes : (c : Case) → test c ≡ true → Holds c
unfolding test
passes (site threads active number) e = eqb-true (firmware threads (counts_of active)) number e
passes (waits threads active asked blocked_by) e = told_exactly (admission_answer threads (counts_of active) asked) (0 ∷ 0 ∷ blocked_by ∷ []) e
passes (rooms threads active all) e = told_exactly (rooms_of threads (counts_of active) threads 0) all e
passes (plan bytes number place) e = told_exactly (reading_told (read bytes)) (number ∷ place ∷ []) e

all_pass : (cs : List Case) → tests cs ≡ true → All cs
unfolding tests
all_pass [] e = tt
all_pass (c ∷ cs) e = (passes c (and_left (test c) (tests cs) e), all_pass cs (and_right (test c) (tests cs) e))

computed : tests table ≡ true
unfolding first last tests test told_is firmware admission_answer may_admit blocking admitted room refuses_site limit lawful full A raised read read_on next
    threads place has_edge edges follows in_range known level_below room_for record_fault site_steps listed
    closed_backwards loops self_depends end_fault bytes_of
computed = refl

pub level_sheet : All table
level_sheet = all_pass table computed
