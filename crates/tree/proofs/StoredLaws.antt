-- What is stored as the slack of a tree node, once over the height: it is never below the sizes that are taken off it, at a lawful site it is the
-- slack of the definitions, and at the root it shows whether the site is lawful. Assumes nothing.
use Prim.Native.Nat.{ℕ, zero, suc, ◌+◌, ◌-◌, ◌^◌, ◌≤◌, ◌<◌, min, zero-le}
use native.Mathlib.Numerals.{add-one}
use native.Mathlib.Omega.{arith}
use lib.ListN.{get_or}
use borrow.Author.Tests.{lt-ltb, le-ltb}
use mathlib.Core.Path.{◌≡◌, refl, ap, ap₂, ◌∙◌}
use mathlib.Core.Logic.{⊎_elim}
use mathlib.Core.Bool.{true, false}
use mathlib.Core.List.{List}
use Rattle.ids.specs.Limits.{most_threads}
use Rattle.lists.proofs.CountLaws.{lt_or_ge, not_true_false}
use Rattle.model.specs.Site.{A, lawful}
use Rattle.model.specs.Tree.{Slack, no_limit, up_to, size, slack, less, smaller, root_height}
use Rattle.model.proofs.SiteLaws.{A-step, A_end, A_down, lawful_at, lawful-all, level_empty}
use Rattle.model.proofs.TreeLaws.{size_is, exact, slack_most, limited}
use Rattle.tree.specs.Places.{TreeCounts, slack_byte, unlimited, no_slack}

-- a slack of the definitions as it is stored
abbrev pub coded : Slack → ℕ
coded no_limit = unlimited
coded (up_to s) = no_slack + s

-- the slack of a pair as it is stored, from the left and the right slack and the right size n
coded_pair : (l r : Slack) (n : ℕ)
    → ((s : ℕ) → l ≡ up_to s → n ≤ s) → (l ≡ no_limit → n ≡ 0)
    → ((s : ℕ) → l ≡ up_to s → s ≤ most_threads) → ((s : ℕ) → r ≡ up_to s → s ≤ most_threads)
    → min (coded r) (coded l - n) ≡ coded (smaller r (less l n))
coded_pair no_limit no_limit n covers empty left right = omega (arith, empty refl)
coded_pair no_limit (up_to t) n covers empty left right = omega (arith, empty refl, right t refl)
coded_pair (up_to s) no_limit n covers empty left right = omega (arith, covers s refl, left s refl)
coded_pair (up_to s) (up_to t) n covers empty left right = omega (arith, covers s refl)

module _ (T : ℕ) (a : List ℕ) (ok : TreeCounts T a) where
  -- no level and no tree node has more calls than there are threads, and none at or above T has any
  few_from : (k : ℕ) → A a k ≤ T
  few_from k = omega (arith, A_down a 0 k zero-le, ok.few)

  pub count_most : (k : ℕ) → get_or a k 0 ≤ T
  count_most k = omega (arith, A-step a k, few_from k)

  pub size_most : (h k : ℕ) → size a h k ≤ T
  size_most h k = omega (arith, size_is a h k, few_from k)

  pub size_empty : (h k : ℕ) → T ≤ k → size a h k ≡ 0
  size_empty h k p = omega (arith, size_is a h k, level_empty T a k ok.within p)

  pub stored_none : (h k : ℕ) → T ≤ k → slack_byte T a h k ≡ unlimited
  unfolding slack_byte
  stored_none zero k p = simp (le-ltb k T p)
  stored_none (suc h) k p = simp (stored_none h k p, stored_none h (k + 2 ^ h) (omega arith), size_empty h (k + 2 ^ h) (omega arith))

  module _ (h k : ℕ) where
    ends : A a (k + 2 ^ h + 2 ^ h) ≡ A a (k + 2 ^ suc h)
    ends = let e : k + 2 ^ h + 2 ^ h ≡ k + 2 ^ suc h = omega arith in ap (A a) e

    -- the calls to the right of the left half: those in the right half, and those to the right of both
    split : A a (k + 2 ^ h) ≡ size a h (k + 2 ^ h) + A a (k + 2 ^ suc h)
    split = size_is a h (k + 2 ^ h) ∙ ap (λ (n : ℕ). size a h (k + 2 ^ h) + n) ends

  -- below T: at least 64 less the calls of the tree node
  stored_low : (h k : ℕ) → k < T → no_slack + A a (k + 2 ^ h) ≤ slack_byte T a h k + A a k
  unfolding slack_byte
  stored_low zero k p = simp (lt-ltb k T p) (omega (arith, A-step a k, ap (A a) (add-one k), few_from k))
  stored_low (suc h) k p =
      let right : no_slack + A a (k + 2 ^ suc h) ≤ slack_byte T a h (k + 2 ^ h) + A a (k + 2 ^ h)
      = ⊎_elim
      (λ (q : k + 2 ^ h < T). omega (arith, stored_low h (k + 2 ^ h) q, ends h k))
      (λ (q : T ≤ k + 2 ^ h). omega (arith, stored_none h (k + 2 ^ h) q, few_from (k + 2 ^ suc h), ok.most))
      (lt_or_ge (k + 2 ^ h) T) in
      omega (arith, stored_low h k p, split h k, few_from k, ok.most, A_down a k (k + 2 ^ h) (omega arith))

  -- so the right size can be taken off the left slack
  pub covers_right : (h k : ℕ) → k < T → size a h (k + 2 ^ h) ≤ slack_byte T a h k
  covers_right h k p = omega (arith, stored_low h k p, split h k, few_from k, ok.most)

  -- and at most what each level leaves
  stored_high : (h k j : ℕ) → k ≤ j → j < k + 2 ^ h → j < T → slack_byte T a h k + j + A a j ≤ no_slack + T + A a (k + 2 ^ h)
  unfolding slack_byte
  stored_high zero k j l u below =
      let e : j ≡ k = omega arith in
      simp (lt-ltb k T (omega arith)) (omega (arith, ap (A a) e, A-step a k, ap (A a) (add-one k), few_from k))
  stored_high (suc h) k j l u below =
      ⊎_elim
      (λ (p : j < k + 2 ^ h). omega (arith, stored_high h k j l p below, split h k, covers_right h k (omega arith)))
      (λ (p : k + 2 ^ h ≤ j). omega (arith, stored_high h (k + 2 ^ h) j p (omega arith) below, ends h k))
      (lt_or_ge j (k + 2 ^ h))

  -- at a lawful site it is the slack
  module _ (law : lawful T a ≡ true) where
    -- a tree node without a limit lies at or above T
    unlimited_empty : (h k : ℕ) → slack T a h k ≡ no_limit → size a h (k + 2 ^ h) ≡ 0
    unlimited_empty h k e =
        ⊎_elim
        (λ (p : k < T). let s = limited T a law h k p in let z : ◌≡◌ {A = ℕ} 0 1 = cc in absurd (omega arith))
        (λ (p : T ≤ k). size_empty h (k + 2 ^ h) (omega arith))
        (lt_or_ge k T)

    pub stored-slack : (h k : ℕ) → slack_byte T a h k ≡ coded (slack T a h k)
    unfolding slack_byte slack
    stored-slack zero k =
        ⊎_elim
        (λ (p : k < T). simp (lt-ltb k T p) (omega (arith, lawful_at T a law k p, A-step a k)))
        (λ (p : T ≤ k). simp (le-ltb k T p))
        (lt_or_ge k T)
    stored-slack (suc h) k =
        ap₂ min (stored-slack h (k + 2 ^ h)) (ap (λ (n : ℕ). n - size a h (k + 2 ^ h)) (stored-slack h k))
        ∙ coded_pair (slack T a h k) (slack T a h (k + 2 ^ h)) (size a h (k + 2 ^ h))
        (λ s e. omega (arith, exact T a law h k s e, split h k))
        (unlimited_empty h k)
        (λ s e. omega (arith, slack_most T a law h k s e, ok.most))
        (λ s e. omega (arith, slack_most T a law h (k + 2 ^ h) s e, ok.most))

  -- at the root it is below 64 exactly where the site is not lawful
  none_right : A a most_threads ≡ 0
  none_right = A_end a most_threads (omega (arith, ok.long))

  pub root_lawful : no_slack ≤ slack_byte T a root_height 0 → lawful T a ≡ true
  root_lawful h = lawful-all T a (λ j l. omega (arith, stored_high root_height 0 j zero-le (omega (arith, ok.most)) l, none_right))

  pub root_unlawful : slack_byte T a root_height 0 < no_slack → lawful T a ≡ false
  root_unlawful h =
      not_true_false (lawful T a)
      (λ law. let s = limited T a law root_height 0 ok.some in omega (arith, stored-slack law root_height 0 ∙ ap coded s.1))
