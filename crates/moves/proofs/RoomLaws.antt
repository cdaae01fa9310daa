-- The rooms in an array are the site book's: the lowest level without room is the limit, an admission takes one room from its level and those below it,
-- and a return gives it back. Assumes nothing.
use Prim.Native.Nat.{ℕ, suc, ◌+◌, ◌-◌, ◌*◌, ◌≤◌, ◌<◌}
use native.Mathlib.Omega.{arith}
use mathlib.Core.Path.{◌≡◌, sym, ap, subst, ◌∙◌}
use mathlib.Core.Logic.{◌⊎◌, inl, inr, ⊎_elim}
use mathlib.Core.Bool.{true}
use mathlib.Core.List.{List}
use lib.ListN.{length, get_or}
use lib.Dec.{leb, eqb}
use borrow.Author.Tests.{lt-ltb, le-ltb, le-leb, lt-leb, eq-eqb, eqb-true, eqb-false}
use Rattle.ids.specs.Limits.{sites, most_threads}
use Rattle.lists.specs.Count.{one, first, last, smallest}
use Rattle.lists.specs.Fill.{Filled, renewed}
use Rattle.lists.proofs.CountLaws.{true_or_false, lt_or_ge, same_test, last_same, smallest_same}
use Rattle.lists.proofs.TellLaws.{first_same}
use Rattle.model.specs.Site.{A, lawful, raised, full, limit, blocking, spare, room}
use Rattle.model.specs.Plan.{Record, threads}
use Rattle.model.specs.NetRules.{Book}
use Rattle.model.proofs.SiteLaws.{A-one, lawful_at, full_is, is_full}
use Rattle.model.proofs.RoomLaws.{room-is}
use Rattle.rooms.specs.Rooms.{room_in, no_room, one_less, one_more, Taking, Giving, Limited}
use Rattle.moves.specs.Held.{room_byte, RoomsTell}

-- Rooms of one site

pub byte_below : (T : ℕ) (a : List ℕ) (k : ℕ) → k < T → room_byte T a k ≡ T - k - A a k
unfolding room_byte spare
byte_below T a k h = rw (lt-ltb k T h)

pub byte_above : (T : ℕ) (a : List ℕ) (k : ℕ) → T ≤ k → room_byte T a k ≡ 255
unfolding room_byte
byte_above T a k h = rw (le-ltb k T h)

-- an admission's share in a room
byte_raised : (T : ℕ) (a : List ℕ) (i k : ℕ) → i < T → i < length a → room_byte T (raised a i) k ≡ room_byte T a k - one (leb k i)
byte_raised T a i k below long =
    ⊎_elim
    (λ (h : k < T). omega (arith, byte_below T a k h, byte_below T (raised a i) k h, A-one a i k long))
    (λ (h : T ≤ k). omega (arith, byte_above T a k h, byte_above T (raised a i) k h, ap one (lt-leb k i (omega arith))))
    (lt_or_ge k T)

module _ (rs : List Record) (book : Book) (rooms : List ℕ) (tells : RoomsTell rs book rooms) (s : ℕ) (inside : s < sites) where
  abbrev T : ℕ
  T = threads rs s

  abbrev base : ℕ
  base = most_threads * s

  module _ (most : threads rs s ≤ most_threads) where
    pub limited : Limited rooms base T
    limited =
        record {
          inside = omega (arith, tells.whole);
          threads_most = most;
          unlimited = λ k h l. omega (arith, tells.each s k inside l, byte_above T (book s) k h);
        }

    -- "A[k] = T - k (level k is then full)": it has no room
    full-room : lawful T (book s) ≡ true → (k : ℕ) → k < T → no_room rooms base k ≡ full T (book s) k
    unfolding no_room
    full-room law k h =
        let here = tells.each s k inside (omega arith) in
        let room-is = byte_below T (book s) k h in
        let fits = lawful_at T (book s) law k h in
        same_test (eqb (get_or rooms (base + k) 0) 0) (full T (book s) k)
        (λ e. is_full T (book s) k (omega (arith, eqb-true (get_or rooms (base + k) 0) 0 e)))
        (λ e. eq-eqb (get_or rooms (base + k) 0) 0 (omega (arith, full_is T (book s) k h e)))

    pub rooms_limit : lawful T (book s) ≡ true → first T (no_room rooms base) ≡ limit T (book s)
    unfolding limit
    rooms_limit law = first_same T (no_room rooms base) (full T (book s)) (full-room law)

    -- what is in the way of a level: the highest level up to it without room
    pub rooms_blocking : lawful T (book s) ≡ true → (i : ℕ) → i < T → last (suc i) (no_room rooms base) ≡ blocking T (book s) i
    unfolding blocking
    rooms_blocking law i below = last_same (suc i) (no_room rooms base) (full T (book s)) (λ k h. full-room law k (omega arith))

    -- the room of a level: the smallest up to it
    pub rooms_smallest : lawful T (book s) ≡ true → T ≤ length (book s) → (i : ℕ) → i < T → smallest i (room_in rooms base) ≡ room T (book s) i
    unfolding spare
    rooms_smallest law long i below =
        smallest_same i (room_in rooms base) (spare T (book s))
        (λ k h. tells.each s k inside (omega arith) ∙ byte_below T (book s) k (omega arith))
        ∙ sym (room-is T i below (book s) long law)

    -- what has changed at this site alone
    elsewhere_same : (after : List ℕ) (next : Book) (change : ℕ → ℕ) (i : ℕ) → i < most_threads
        → Filled (renewed change rooms) base (base + (i + 1)) rooms after
        → ((r : ℕ) → (r ≡ s → ⊥) → next r ≡ book r)
        → ((k : ℕ) → k < most_threads → get_or after (base + k) 0 ≡ room_byte T (next s) k)
        → RoomsTell rs next after
    elsewhere_same after next change i small filled others here = record { whole = filled.long ∙ tells.whole; each = at }
      where
        at : (r k : ℕ) → r < sites → k < most_threads → get_or after (most_threads * r + k) 0 ≡ room_byte (threads rs r) (next r) k
        at r k hr hk =
            ⊎_elim
            (λ e.
            subst (λ (q : ℕ). get_or after (most_threads * q + k) 0 ≡ room_byte (threads rs q) (next q) k) (sym (eqb-true r s e)) (here k hk))
            (λ e.
            let apart = eqb-false r s e in
            filled.outside (most_threads * r + k) (λ p q. apart (omega arith))
            ∙ tells.each r k hr hk
            ∙ ap (λ (a : List ℕ). room_byte (threads rs r) a k) (sym (others r apart)))
            (true_or_false (eqb r s))

    -- An admission

    module _ (i : ℕ) (below : i < T) (long : i < length (book s)) where
      pub taking : lawful T (raised (book s) i) ≡ true → Taking rooms base i
      taking law =
          record {
            inside = omega (arith, tells.whole);
            level_small = omega arith;
            some_room = λ k h.
                omega (
                  arith,
                  tells.each s k inside (omega arith),
                  byte_below T (book s) k (omega arith),
                  lawful_at T (raised (book s) i) law k (omega arith),
                  A-one (book s) i k long,
                  ap one (le-leb k i h),
                );
          }

      -- the rooms of level i and below are one less here, and all others as they were
      pub rooms-taken : (after : List ℕ) (next : Book) → Filled (renewed one_less rooms) base (base + (i + 1)) rooms after
          → ((r : ℕ) → (r ≡ s → ⊥) → next r ≡ book r) → next s ≡ raised (book s) i → RoomsTell rs next after
      unfolding renewed
      rooms-taken after next filled others raised-here =
          elsewhere_same after next one_less i (omega arith) filled others
          (λ k h. at k h (lt_or_ge i k) ∙ ap (λ (a : List ℕ). room_byte T a k) (sym raised-here))
        where
          at : (k : ℕ) → k < most_threads → (i < k) ⊎ (k ≤ i) → get_or after (base + k) 0 ≡ room_byte T (raised (book s) i) k
          at k h (inl p) =
              omega (
                arith,
                filled.outside (base + k) (λ a b. omega arith),
                tells.each s k inside h,
                byte_raised T (book s) i k below long,
                ap one (lt-leb k i p),
              )
          at k h (inr p) =
              omega (
                arith,
                filled.inside (base + k) (omega arith) (omega arith),
                tells.each s k inside h,
                byte_raised T (book s) i k below long,
                ap one (le-leb k i p),
              )

    -- A return: the site had one call more

    module _ (next : Book) (i : ℕ) (below : i < T) (long : i < length (next s)) (law : lawful T (book s) ≡ true) (had : book s ≡ raised (next s) i) where
      fits : (k : ℕ) → k < T → A (next s) k + one (leb k i) + k ≤ T
      fits k h = omega (arith, lawful_at T (book s) law k h, ap (λ (a : List ℕ). A a k) had, A-one (next s) i k long)

      now-is : (k : ℕ) → k < most_threads → get_or rooms (base + k) 0 ≡ room_byte T (raised (next s) i) k
      now-is k h = tells.each s k inside h ∙ ap (λ (a : List ℕ). room_byte T a k) had

      pub giving : Giving rooms base i
      giving =
          record {
            inside = omega (arith, tells.whole);
            level_small = omega arith;
            not_most = λ k h. omega (arith, now-is k (omega arith), byte_below T (raised (next s) i) k (omega arith));
          }

      pub rooms-given : (after : List ℕ) → Filled (renewed one_more rooms) base (base + (i + 1)) rooms after
          → ((r : ℕ) → (r ≡ s → ⊥) → next r ≡ book r) → RoomsTell rs next after
      unfolding renewed
      rooms-given after filled others = elsewhere_same after next one_more i (omega arith) filled others (λ k h. at k h (lt_or_ge i k))
        where
          at : (k : ℕ) → k < most_threads → (i < k) ⊎ (k ≤ i) → get_or after (base + k) 0 ≡ room_byte T (next s) k
          at k h (inl p) =
              omega (arith, filled.outside (base + k) (λ a b. omega arith), now-is k h, byte_raised T (next s) i k below long, ap one (lt-leb k i p))
          at k h (inr p) =
              omega (
                arith,
                filled.inside (base + k) (omega arith) (omega arith),
                now-is k h,
                byte_raised T (next s) i k below long,
                ap one (le-leb k i p),
                byte_below T (next s) k (omega arith),
                fits k (omega arith),
              )
