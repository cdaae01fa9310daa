-- The lowest full level as a minimum over all levels: once it has been passed it is the minimum so far, and before that the threads are. Assumes nothing.
use Prim.Native.Nat.{ℕ, zero, suc, ◌+◌, ◌≤◌, ◌<◌, min}
use native.Mathlib.Omega.{arith}
use mathlib.Core.Path.{◌≡◌, refl, sym, ap, ◌∙◌}
use mathlib.Core.Logic.{◌⊎◌, inl, inr, ⊎_elim}
use mathlib.Core.Bool.{Bool, true, false, cond}
use mathlib.Core.List.{List}
use lib.ListN.{get_or}
use lib.Dec.{eqb}
use borrow.Author.Tests.{ne_eqb}
use Rattle.ids.specs.Limits.{most_threads}
use Rattle.lists.specs.Count.{first, last}
use Rattle.lists.proofs.CountLaws.{true_or_false, lt_or_ge, never_both, first_holds, first_before, first_is, first_none}
use Rattle.lists.proofs.BlockLaws.{first_passed, first_here}
use Rattle.rooms.specs.Rooms.{no_room, Limited}

abbrev pub lowest : List ℕ → ℕ → ℕ
lowest rooms base = first most_threads (no_room rooms base)

-- the minimum over the levels below k
pub record Lowest (rooms : List ℕ) (base threads k low : ℕ) : Type 0 where
  pub inside : k ≤ most_threads
  pub passed : lowest rooms base < k → low ≡ lowest rooms base
  pub ahead : k ≤ lowest rooms base → low ≡ threads

pub lowest_start : (rooms : List ℕ) (base threads : ℕ) → Lowest rooms base threads 0 threads
lowest_start rooms base threads = record { inside = omega arith; passed = λ h. absurd (omega arith); ahead = λ h. refl }

module _ (rooms : List ℕ) (base threads : ℕ) (fit : Limited rooms base threads) where
  -- a full level is below the threads
  full_below : (k : ℕ) → k < most_threads → no_room rooms base k ≡ true → k < threads
  unfolding no_room
  full_below k h e =
      ⊎_elim
      (λ (p : k < threads). p)
      (λ (p : threads ≤ k). absurd (never_both e (ne_eqb (get_or rooms (base + k) 0) 0 (λ q. omega (arith, fit.unlimited k p h)))))
      (lt_or_ge k threads)

  lowest_below : lowest rooms base < most_threads → lowest rooms base < threads
  lowest_below h = full_below (lowest rooms base) h (first_holds most_threads (no_room rooms base) h)

  pub lowest_turn : (k low here : ℕ) → k < most_threads → Lowest rooms base threads k low → here ≡ cond (eqb (get_or rooms (base + k) 0) 0) k threads
      → Lowest rooms base threads (k + 1) (min low here)
  unfolding no_room
  lowest_turn k low here h w e = ⊎_elim behind front (lt_or_ge (lowest rooms base) k)
    where
      at_most : (b : Bool) → here ≡ cond b k threads → (k ≤ here) ⊎ (threads ≤ here)
      at_most true q = inl (omega arith)
      at_most false q = inr (omega arith)

      behind : lowest rooms base < k → Lowest rooms base threads (k + 1) (min low here)
      behind p =
          record {
            inside = omega arith;
            passed = λ q.
                ⊎_elim
                (λ (r : k ≤ here). omega (arith, w.passed p))
                (λ (r : threads ≤ here). omega (arith, w.passed p, lowest_below (omega arith)))
                (at_most (eqb (get_or rooms (base + k) 0) 0) e);
            ahead = λ q. absurd (omega arith);
          }

      front : k ≤ lowest rooms base → Lowest rooms base threads (k + 1) (min low here)
      front p = ⊎_elim full free (true_or_false (eqb (get_or rooms (base + k) 0) 0))
        where
          full : eqb (get_or rooms (base + k) 0) 0 ≡ true → Lowest rooms base threads (k + 1) (min low here)
          full t =
              let here-is : here ≡ k = e ∙ ap (λ (b : Bool). cond b k threads) t in
              let first-is-k = first_here most_threads (no_room rooms base) k h p t in
              let small = full_below k h t in
              record {
                inside = omega arith;
                passed = λ q. omega (arith, w.ahead p);
                ahead = λ q. absurd (omega arith);
              }

          free : eqb (get_or rooms (base + k) 0) 0 ≡ false → Lowest rooms base threads (k + 1) (min low here)
          free t =
              let here-is : here ≡ threads = e ∙ ap (λ (b : Bool). cond b k threads) t in
              let past = first_passed most_threads (no_room rooms base) k h p t in
              record {
                inside = omega arith;
                passed = λ q. absurd (omega arith);
                ahead = λ q. omega (arith, w.ahead p);
              }

  pub lowest_end : (k low : ℕ) → most_threads ≤ k → Lowest rooms base threads k low → low ≡ first threads (no_room rooms base)
  lowest_end k low h w =
      ⊎_elim
      (λ (p : lowest rooms base < most_threads).
      w.passed (omega arith)
      ∙ sym (first_is threads (no_room rooms base) (lowest rooms base) (lowest_below p) (first_holds most_threads (no_room rooms base) p)
      (first_before most_threads (no_room rooms base))))
      (λ (p : most_threads ≤ lowest rooms base).
      w.ahead (omega (arith, w.inside))
      ∙ sym (first_none threads (no_room rooms base) (λ j l. first_before most_threads (no_room rooms base) j (omega (arith, fit.threads_most)))))
      (lt_or_ge (lowest rooms base) most_threads)

-- with at most one number below the bound the greatest is 0
pub last_low : (k : ℕ) (f : ℕ → Bool) → k ≤ 1 → last k f ≡ 0
unfolding last
last_low zero f h = refl
last_low (suc zero) f h = go (f 0)
  where
    go : (b : Bool) → ◌≡◌ {A = ℕ} (cond b 0 0) 0
    go true = refl
    go false = refl
last_low (suc (suc k)) f h = absurd (omega arith)
