-- Over arrays that hold the tree of a lawful site the walk is the walk of the definitions, by induction over the height: the place's halves are
-- the tree node's halves, and a stored slack passes the test exactly when the slack does. At the root it shows whether the site is refused.
-- Assumes nothing.
use Prim.Native.Nat.{ℕ, zero, suc, ◌+◌, ◌-◌, ◌*◌, ◌^◌, ◌≤◌, ◌<◌}
use native.Mathlib.Omega.{arith}
use lib.ListN.{get_or}
use lib.Dec.{eqb}
use borrow.Author.Tests.{eq-eqb, ne_eqb, eqb-true}
use mathlib.Core.Path.{◌≡◌, sym, ap, ap₂, ◌∙◌}
use mathlib.Core.Bool.{Bool, true, false, cond}
use mathlib.Core.List.{List}
use Rattle.std.specs.Prelude.{Result, Ok, Err}
use Rattle.model.specs.declared.SiteRefused.{SiteRefused}
use Rattle.ids.specs.Limits.{most_threads}
use Rattle.lists.proofs.CountLaws.{not_false_so, never_both, same_test}
use Rattle.model.specs.Site.{lawful, refuses_site}
use Rattle.model.specs.Tree.{Slack, no_limit, up_to, size, slack, is, walk, onward, from_root, root_height}
use Rattle.model.proofs.SiteLaws.{Accepted, accepted, not_refused, lawful_at}
use Rattle.model.specs.declared.Walked.{Walked}
use Rattle.tree.specs.Descent.{descent}
use Rattle.tree.specs.Places.{places, unlimited, no_slack, TreeCounts, slack_byte, first_level, Built, walk_in}
use Rattle.tree.proofs.StoredLaws.{coded, size_most, stored-slack, root_lawful, root_unlawful}

-- no number that the walk compares with is stored as no limit
coded_is : (s : Slack) (x : ℕ) → no_slack + x < unlimited → eqb (coded s) (no_slack + x) ≡ is s x
coded_is no_limit x h = ne_eqb unlimited (no_slack + x) (λ e. omega arith)
coded_is (up_to s) x h =
    same_test (eqb (no_slack + s) (no_slack + x)) (eqb s x)
    (λ e. eq-eqb s x (omega (arith, eqb-true (no_slack + s) (no_slack + x) e)))
    (λ e. eq-eqb (no_slack + s) (no_slack + x) (omega (arith, eqb-true s x e)))

chosen : (b c : Bool) (v w v' w' : Walked) → b ≡ c → v ≡ v' → w ≡ w' → cond b (onward v) (onward w) ≡ cond c (onward v') (onward w')
chosen b c v w v' w' p q r = cc

abbrev refusal : Result Walked SiteRefused
refusal = Err (record {})

counted : {T : ℕ} {a : List ℕ} → Accepted T a → TreeCounts T a
counted {T} {a} s =
    record { some = s.some; most = s.most; long = s.long; within = s.within; few = omega (arith, lawful_at T a s.law 0 s.some) }

refuses : (T : ℕ) (a : List ℕ) → (Accepted T a → ⊥) → refusal ≡ descent T a
unfolding descent
refuses T a f = rw (not_false_so (refuses_site T a) (λ e. f (accepted T a e)))

-- where a tree cannot be built the site is refused
pub uncounted_refused : (T : ℕ) (a : List ℕ) → (TreeCounts T a → ⊥) → refusal ≡ descent T a
uncounted_refused T a f = refuses T a (λ s. f (counted s))

module _ (T : ℕ) (a : List ℕ) (ok : TreeCounts T a) (sizes slacks : List ℕ) (built : Built root_height T a sizes slacks) where
  root_stored : get_or slacks 1 0 ≡ slack_byte T a root_height 0
  root_stored = built.slack_at root_height 1 (omega arith) (omega arith) (omega arith)

  pub root_refuses : get_or slacks 1 0 < no_slack → refusal ≡ descent T a
  root_refuses h = refuses T a (λ s. never_both s.law (root_unlawful T a ok (omega (arith, root_stored))))

  module _ (enough : no_slack ≤ get_or slacks 1 0) where
    law : lawful T a ≡ true
    law = root_lawful T a ok (omega (arith, root_stored))

    admitted : refuses_site T a ≡ false
    admitted = not_refused T a (record { some = ok.some; most = ok.most; long = ok.long; within = ok.within; law = law })

    walks_tree : (h n carried : ℕ) → h ≤ root_height → most_threads ≤ n * 2 ^ h → (n + 1) * 2 ^ h ≤ places
        → no_slack + (size a h (first_level h n) + carried) < unlimited
        → walk_in sizes slacks h n carried ≡ walk T a h (first_level h n) carried
    unfolding walk size
    walks_tree zero n carried most low high small =
        let e : n - most_threads ≡ first_level 0 n = omega arith in ap (λ (k : ℕ). record { leaf = k; stood = 1 }) e
    walks_tree (suc h) n carried most low high small =
        let p = 2 ^ h in
        let k = first_level (suc h) n in
        let up : 2 ^ suc h ≡ 2 * p = omega arith in
        let l : most_threads ≤ n * (2 * p) = rw up at low in
        let u : (n + 1) * (2 * p) ≤ places = rw up at high in
        let k-is : k ≡ n * (2 * p) - most_threads = ap (λ (x : ℕ). n * x - most_threads) up in
        let left : first_level h (2 * n) ≡ k = omega arith in
        let right : first_level h (2 * n + 1) ≡ k + p = omega arith in
        let size-right = built.size_at h (2 * n + 1) (omega arith) (omega arith) (omega arith) ∙ ap (size a h) right in
        let slack-left
        = built.slack_at h (2 * n) (omega arith) (omega arith) (omega arith)
        ∙ ap (slack_byte T a h) left
        ∙ stored-slack T a ok law h k in
        let with_right = ap (λ (s : ℕ). s + carried) size-right in
        chosen _ _ _ _ _ _
        (ap₂ eqb slack-left (ap (λ (s : ℕ). no_slack + s) with_right)
        ∙ coded_is (slack T a h k) (size a h (k + p) + carried) (omega arith))
        (ap (walk_in sizes slacks h (2 * n)) with_right
        ∙ walks_tree h (2 * n) (size a h (k + p) + carried) (omega arith) (omega arith) (omega arith) (omega (arith, ap (size a h) left))
        ∙ ap (λ (j : ℕ). walk T a h j (size a h (k + p) + carried)) left)
        (walks_tree h (2 * n + 1) carried (omega arith) (omega arith) (omega arith) (omega (arith, ap (size a h) right))
        ∙ ap (λ (j : ℕ). walk T a h j carried) right)

    root_test : eqb (get_or slacks 1 0) no_slack ≡ is (slack T a root_height 0) 0
    root_test = ap (λ (s : ℕ). eqb s no_slack) (root_stored ∙ stored-slack T a ok law root_height 0) ∙ coded_is (slack T a root_height 0) 0 (omega arith)

    pub root_stays : no_slack < get_or slacks 1 0 → Ok (record { leaf = T; stood = 1 }) ≡ descent T a
    unfolding descent from_root
    root_stays h = rw (admitted, sym root_test ∙ ne_eqb (get_or slacks 1 0) no_slack (λ e. omega arith))

    pub root_walks : get_or slacks 1 0 ≤ no_slack → Ok (walk_in sizes slacks root_height 1 0) ≡ descent T a
    unfolding descent from_root
    root_walks h =
        rw (admitted, sym root_test ∙ eq-eqb (get_or slacks 1 0) no_slack (omega arith))
        (ap Ok
        (walks_tree root_height 1 0 (omega arith) (omega arith) (omega arith) (omega (arith, size_most T a ok root_height 0, ok.most))))
