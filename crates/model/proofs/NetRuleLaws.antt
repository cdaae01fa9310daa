-- The tests of the net rules decide them: a net and its book break none exactly when `broken_rule` is 0, and it names the first that is broken.
-- Each test is what its field says, over the calls or over the sites. Assumes nothing.
use Prim.Native.Nat.{ℕ, ◌≤◌, ◌<◌}
use native.Mathlib.Omega.{arith}
use mathlib.Core.Path.{◌≡◌, refl, sym, ap, ap₂, subst}
use mathlib.Core.Logic.{◌↔◌, ⊎_elim}
use mathlib.Core.Bool.{Bool, true, false, not, ◌&&◌}
use mathlib.Core.List.{List, [], ◌∷◌, Memᴰ}
use lib.ListN.{length}
use lib.Dec.{eqb}
use borrow.Author.Tests.{leb-true, le-leb, eqb-true, eq-eqb, ne_eqb}
use Rattle.ids.specs.Limits.{sites, no_ticket, most_open}
use Rattle.lists.specs.Pick.{count, all}
use Rattle.lists.proofs.CountLaws.{never_both, and_left, and_right, and_both, every_at, every-all, lt_or_ge}
use Rattle.lists.proofs.PickLaws.{all_at, all-each, count_none, count-some, some_counted}
use Rattle.model.specs.Site.{lawful}
use Rattle.model.specs.Plan.{Record, threads, six, passes}
use Rattle.model.specs.Faults.{Given}
use Rattle.model.specs.Net.{Call, Core, has_node, has, counts}
use Rattle.model.specs.NetRules.{Book, parent_kept, could_go, NetRules, same_list, own_ticket, some_ticket, tickets_kept, book_kept, all_lawful}
use Rattle.model.specs.NetRules.{rule_tests, broken_rule}
use Rattle.model.proofs.SiteLaws.{lawful-all}
use Rattle.model.proofs.TestLaws.{lone, first_fault-is}
use Rattle.model.proofs.RecordLaws.{threads-listed, passes_ok}

pub same_list-is : (xs ys : List ℕ) → same_list xs ys ≡ true → xs ≡ ys
same_list-is [] [] e = refl
same_list-is [] (y ∷ ys) e = absurd (never_both {b = false} e refl)
same_list-is (x ∷ xs) [] e = absurd (never_both {b = false} e refl)
same_list-is (x ∷ xs) (y ∷ ys) e =
    ap₂ (λ (a : ℕ) (l : List ℕ). a ∷ l) (eqb-true x y (and_left (eqb x y) (same_list xs ys) e))
    (same_list-is xs ys (and_right (eqb x y) (same_list xs ys) e))

pub list_same : (xs : List ℕ) → same_list xs xs ≡ true
list_same [] = refl
list_same (x ∷ xs) = and_both (eqb x x) (same_list xs xs) (eq-eqb x x refl) (list_same xs)

not_is : (b : Bool) → not b ≡ true → b ≡ false
not_is true e = absurd (never_both {b = false} e refl)
not_is false e = refl

module _ (net : Core) (book : Book) where
  abbrev cs : List Call
  cs = net.calls

  abbrev rs : List Record
  rs = net.plan

  -- Tickets

  pub differ-is : tickets_kept cs ≡ true → (t : ℕ) → count (has t) cs ≤ 1
  unfolding has tickets_kept
  differ-is e t =
      ⊎_elim
      (λ (p : 1 < count (has t) cs).
      let w = some_counted (has t) cs (omega arith) in
      let own = and_left (own_ticket cs w.0) (some_ticket w.0) (all_at (λ c. own_ticket cs c && some_ticket c) cs e w.0 w.1) in
      let same = eqb-true w.0.ticket t w.2 in
      omega (arith, leb-true (count (has w.0.ticket) cs) 1 own, ap (λ (x : ℕ). count (has x) cs) same))
      (λ (p : count (has t) cs ≤ 1). p)
      (lt_or_ge 1 (count (has t) cs))

  pub not_0_is : tickets_kept cs ≡ true → count (has no_ticket) cs ≡ 0
  unfolding has tickets_kept
  not_0_is e =
      count_none (has no_ticket) cs
      (λ c m.
      not_is (eqb c.ticket no_ticket)
      (and_right (own_ticket cs c) (some_ticket c) (all_at (λ d. own_ticket cs d && some_ticket d) cs e c m)))

  tickets_pass : ((t : ℕ) → count (has t) cs ≤ 1) → count (has no_ticket) cs ≡ 0 → tickets_kept cs ≡ true
  unfolding has tickets_kept
  tickets_pass differ none =
      all-each (λ c. own_ticket cs c && some_ticket c) cs
      (λ c m.
      and_both (own_ticket cs c) (some_ticket c) (le-leb (count (has c.ticket) cs) 1 (differ c.ticket))
      (ap not (ne_eqb c.ticket no_ticket (λ q. omega (arith, none, count-some (has no_ticket) cs c m (eq-eqb c.ticket no_ticket q))))))

  -- Sites: those without a record have no threads, and no level that could be too full

  pub sites-all : passes six rs ≡ true → all_lawful net ≡ true → (s : ℕ) → lawful (threads rs s) (counts rs cs s) ≡ true
  unfolding all_lawful
  sites-all pass e s =
      ⊎_elim
      (λ (p : 0 < threads rs s).
      every_at sites (λ r. lawful (threads rs r) (counts rs cs r)) e s
      ((passes_ok six rs pass).site_range s (threads rs s) (threads-listed rs s (λ z. omega arith))).0)
      (λ (p : threads rs s ≤ 0). lawful-all (threads rs s) (counts rs cs s) (λ k h. absurd (omega arith)))
      (lt_or_ge 0 (threads rs s))

  lawful_pass : ((s : ℕ) → lawful (threads rs s) (counts rs cs s) ≡ true) → all_lawful net ≡ true
  unfolding all_lawful
  lawful_pass law = every-all sites (λ s. lawful (threads rs s) (counts rs cs s)) (λ s h. law s)

  book_is : book_kept net book ≡ true → (s : ℕ) → s < sites → book s ≡ counts rs cs s
  unfolding book_kept
  book_is e s h = same_list-is (book s) (counts rs cs s) (every_at sites (λ r. same_list (book r) (counts rs cs r)) e s h)

  book_pass : ((s : ℕ) → s < sites → book s ≡ counts rs cs s) → book_kept net book ≡ true
  unfolding book_kept
  book_pass h =
      every-all sites (λ s. same_list (book s) (counts rs cs s))
      (λ s l. subst (λ (a : List ℕ). same_list a (counts rs cs s) ≡ true) (sym (h s l)) (list_same (counts rs cs s)))

  rules_from : Given 0 (rule_tests net book) → NetRules net book
  unfolding rule_tests
  rules_from w =
      let few = w.0 in
      let pass = w.1.0 in
      let tickets = w.1.1.0 in
      let behind = w.1.1.1 in
      let law = behind.1.1.1.0 in
      record {
        plan_passes = pass;
        tickets_differ = differ-is tickets;
        no_ticket_0 = not_0_is tickets;
        nodes_known = all_at (λ c. has_node rs c.node) cs behind.0;
        parents_kept = all_at (parent_kept rs cs) cs behind.1.0;
        counts_kept = book_is behind.1.1.0;
        sites_lawful = sites-all pass law;
        settled = λ c m. not_is (could_go rs cs c) (all_at (λ d. not (could_go rs cs d)) cs behind.1.1.1.1.0 c m);
        few_open = leb-true (length cs) most_open few;
      }

  rules_into : NetRules net book → Given 0 (rule_tests net book)
  unfolding rule_tests
  rules_into k = (
    le-leb (length cs) most_open k.few_open,
    (
      k.plan_passes,
      (
        tickets_pass k.tickets_differ k.no_ticket_0,
        (
          all-each (λ c. has_node rs c.node) cs k.nodes_known,
          (
            all-each (parent_kept rs cs) cs k.parents_kept,
            (
              book_pass k.counts_kept,
              (
                lawful_pass k.sites_lawful,
                (
                  all-each (λ c. not (could_go rs cs c)) cs (λ c m. ap not (k.settled c m)),
                  refl,
                ),
              ),
            ),
          ),
        ),
      ),
    ),
  )

  -- a net breaks no rule exactly when none of its tests fails
  pub rules_exactly : (broken_rule net book ≡ 0) ↔ NetRules net book
  unfolding broken_rule rule_tests
  rules_exactly =
      let w = first_fault-is 0 (rule_tests net book) refl in ((λ e. rules_from (w.0 e)), (λ k. w.1 (rules_into k)))

  -- and the number is that of the first rule that is broken
  pub broken-first : (n : ℕ) → Memᴰ n (9 ∷ 1 ∷ 2 ∷ 3 ∷ 4 ∷ 5 ∷ 6 ∷ 7 ∷ []) → (broken_rule net book ≡ n) ↔ Given n (rule_tests net book)
  unfolding broken_rule rule_tests all
  broken-first n m = first_fault-is n (rule_tests net book) (all_at (λ j. lone j (rule_tests net book)) (9 ∷ 1 ∷ 2 ∷ 3 ∷ 4 ∷ 5 ∷ 6 ∷ 7 ∷ []) refl n m)
