-- The first broken rule, by the tests before it that hold and the one that fails. Assumes nothing.
use Prim.Native.Nat.{◌≤◌, ◌<◌}
use native.Mathlib.Omega.{arith}
use mathlib.Core.Path.{◌≡◌, sym, ◌∙◌}
use mathlib.Core.Bool.{true, false, not, cond}
use mathlib.Core.List.{List}
use lib.ListN.{length}
use lib.Dec.{leb}
use borrow.Author.Tests.{lt-ltb, le-ltb, lt-leb, le-leb}
use Rattle.ids.specs.Limits.{most_open, most_edges}
use Rattle.lists.specs.Pick.{all}
use Rattle.model.specs.Plan.{Record, six, passes}
use Rattle.model.specs.PlanValue.{records_of}
use Rattle.model.specs.Net.{Call, Core, has_node}
use Rattle.model.specs.NetRules.{parent_kept, could_go, tickets_kept, book_kept, all_lawful, rule_tests, broken_rule}
use Rattle.value.specs.View.{core_of, row_of, broken}
use Rattle.value.specs.declared.Net.{Net}
use Rattle.apart.proofs.ApartLaws.{first-length}
use Rattle.entry.specs.Entry.{open_calls, PlanKept, NumberKept, CallKept}

module _ (net : Net) where
  abbrev pub rs : List Record
  rs = records_of net.plan

  abbrev pub cs : List Call
  cs = open_calls net

  abbrev pub core : Core
  core = record { plan = rs; calls = cs }

  pub edges_many : most_edges < net.plan.edges → 1 ≡ broken net
  unfolding broken
  edges_many h = sym (rw (lt-ltb most_edges net.plan.edges h))

  module _ (edges_few : net.plan.edges ≤ most_edges) where
    tests_are : broken net
        ≡ cond (leb (length cs) most_open)
        (cond (passes six rs)
        (cond (tickets_kept cs)
        (cond (all (λ c. has_node rs c.node) cs)
        (cond (all (parent_kept rs cs) cs)
        (cond (book_kept core (row_of net.counts))
        (cond (all_lawful core) (cond (all (λ c. not (could_go rs cs c)) cs) 0 7) 6)
        5)
        4)
        3)
        2)
        1)
        9
    unfolding broken broken_rule rule_tests core_of
    tests_are = rw (le-ltb most_edges net.plan.edges edges_few)

    pub calls_many : most_open < net.used → 9 ≡ broken net
    calls_many h = sym (tests_are ∙ rw (lt-leb (length cs) most_open (omega (arith, first-length net.calls net.used))))

    few : net.used ≤ most_open → leb (length cs) most_open ≡ true
    few h = le-leb (length cs) most_open (omega (arith, first-length net.calls net.used))

    pub plan_fails : net.used ≤ most_open → passes six rs ≡ false → 1 ≡ broken net
    plan_fails h e = sym (tests_are ∙ rw (few h, e))

  module _ (k : PlanKept net) where
    pub tickets_fail : tickets_kept cs ≡ false → 2 ≡ broken net
    tickets_fail e = sym (tests_are k.edges_few ∙ rw (few k.edges_few k.calls_few, k.pass, e))

    pub nodes_fail : tickets_kept cs ≡ true → all (λ c. has_node rs c.node) cs ≡ false → 3 ≡ broken net
    nodes_fail tickets e = sym (tests_are k.edges_few ∙ rw (few k.edges_few k.calls_few, k.pass, tickets, e))

  module _ (k : NumberKept net) where
    later_are : broken net
        ≡ cond (all (parent_kept rs cs) cs)
        (cond (book_kept core (row_of net.counts))
        (cond (all_lawful core) (cond (all (λ c. not (could_go rs cs c)) cs) 0 7) 6)
        5)
        4
    later_are =
        let p = k.plan_kept in
        tests_are p.edges_few ∙ rw (few p.edges_few p.calls_few, p.pass, k.tickets_are, k.nodes_are)

    pub parents_fail : all (parent_kept rs cs) cs ≡ false → 4 ≡ broken net
    parents_fail e = sym (later_are ∙ rw e)

    pub counts_fail : all (parent_kept rs cs) cs ≡ true → book_kept core (row_of net.counts) ≡ false → 5 ≡ broken net
    counts_fail parents e = sym (later_are ∙ rw (parents, e))

  module _ (k : CallKept net) where
    pub lawful_fails : all_lawful core ≡ false → 6 ≡ broken net
    lawful_fails e = sym (later_are k.number_kept ∙ rw (k.parents_are, k.counts_are, e))

    module _ (lawful_are : all_lawful core ≡ true) where
      pub settled-fails : all (λ c. not (could_go rs cs c)) cs ≡ false → 7 ≡ broken net
      settled-fails e = sym (later_are k.number_kept ∙ rw (k.parents_are, k.counts_are, lawful_are, e))

      pub none_broken : all (λ c. not (could_go rs cs c)) cs ≡ true → 0 ≡ broken net
      none_broken e = sym (later_are k.number_kept ∙ rw (k.parents_are, k.counts_are, lawful_are, e))
