-- The answers of the site book, once it is known what the walk down the tree answered: a refusal exactly where the site is refused, and else
-- the walk ends at the limit, below which lie the levels that may be admitted. Assumes nothing.
use Prim.Native.Nat.{ℕ, ◌-◌, ◌≤◌, ◌<◌}
use native.Mathlib.Omega.{arith}
use borrow.Author.Tests.{lt-ltb, le-ltb, le-leb, lt-leb}
use mathlib.Core.Path.{◌≡◌, refl, sym, ap, ap₂, ◌∙◌}
use mathlib.Core.Bool.{Bool, true, false, cond}
use mathlib.Core.List.{List, [], ◌∷◌}
use lib.Dec.{ltb}
use Rattle.lists.specs.Count.{smallest}
use Rattle.model.specs.Site.{refuses_site, limit, may_admit, blocking, spare}
use Rattle.model.specs.Tree.{from_root}
use Rattle.ids.specs.declared.Level.{Level}
use Rattle.model.specs.Answers.{level_number, site_refusal, level_refusal, level_answer, admission_answer, room_answer, firmware}
use Rattle.model.specs.declared.Walked.{Walked}
use Rattle.model.proofs.SiteLaws.{Accepted, accepted}
use Rattle.model.proofs.TreeLaws.{from_root-is}
use Rattle.model.proofs.RuleLaws.{admits_below}
use Rattle.model.proofs.RoomLaws.{room-is}
use Rattle.tree.specs.Descent.{descent}
use Rattle.std.specs.Prelude.{Option, Some, None, Result, Ok, Err, MatchOption, MatchResult, SomeIff, IsSomeAnd}
use Rattle.model.specs.declared.SiteRefused.{SiteRefused}
use Rattle.book.specs.Asked.{Asked}

-- what an answer of the walk says of the test that it was picked by
abbrev refused : Result Walked SiteRefused
refused = Err (record {})

picked_refused : (b : Bool) (why : SiteRefused) (w : Walked) → Err why ≡ cond b refused (Ok w) → b ≡ true
picked_refused true why w e = refl
picked_refused false why w e = let z : ◌≡◌ {A = ℕ} 0 1 = cc in absurd (omega arith)

picked_ended : (b : Bool) (v w : Walked) → Ok v ≡ cond b refused (Ok w) → (b ≡ false) × (v ≡ w)
picked_ended true v w e = let z : ◌≡◌ {A = ℕ} 0 1 = cc in absurd (omega arith)
picked_ended false v w e = (refl, cc)

-- a level plus 1 is the number that it was taken off
numbered : (below : Option ℕ) (highest : Option Level) (n : ℕ) → SomeIff below (1 ≤ n) (n - 1)
    → MatchOption below (highest ≡ None) (λ l. IsSomeAnd highest (λ r. r.0 ≡ l)) → level_number highest ≡ n
numbered None highest n some so = rw so (omega (arith, some))
numbered (Some l) None n some so = elim so [ ]
numbered (Some l) (Some r) n some so = omega (arith, some, so)

module _ (T : ℕ) (a : List ℕ) where
  -- the walk was refused
  module _ (why : SiteRefused) (e : Err why ≡ descent T a) where
    site_refused : refuses_site T a ≡ true
    unfolding descent
    site_refused = picked_refused (refuses_site T a) why (from_root T a) e

    pub level_refused : site_refusal ≡ level_answer T a
    unfolding level_answer
    level_refused = rw site_refused

    pub admission_refused : (i : ℕ) → site_refusal ≡ admission_answer T a i
    unfolding admission_answer
    admission_refused i = rw site_refused

    pub room_refused : (k : ℕ) → site_refusal ≡ room_answer T a k
    unfolding room_answer
    room_refused k = rw site_refused

    pub firmware_refused : 255 ≡ firmware T a
    unfolding firmware
    firmware_refused = rw site_refused

  -- the walk ended
  module _ (w : Walked) (e : Ok w ≡ descent T a) where
    told : (refuses_site T a ≡ false) × (w ≡ from_root T a)
    unfolding descent
    told = picked_ended (refuses_site T a) w (from_root T a) e

    pub site : Accepted T a
    site = accepted T a told.0

    ends : w.leaf ≡ limit T a
    ends = ap (λ (v : Walked). v.leaf) told.1 ∙ (from_root-is T a site.law site.some site.most site.long).0

    pub level_walked : 0 ∷ w.leaf ∷ w.stood ∷ [] ≡ level_answer T a
    unfolding level_answer
    level_walked = rw told.0 (ap₂ (λ (l s : ℕ). 0 ∷ l ∷ s ∷ []) ends (ap (λ (v : Walked). v.stood) told.1))

    -- the highest level is one less than where the walk ended
    pub level_highest : (below : Option ℕ) (highest : Option Level) → SomeIff below (1 ≤ w.leaf) (w.leaf - 1)
        → MatchOption below (highest ≡ None) (λ l. IsSomeAnd highest (λ r. r.0 ≡ l))
        → 0 ∷ level_number highest ∷ w.stood ∷ [] ≡ level_answer T a
    level_highest below highest some so = ap (λ (l : ℕ). 0 ∷ l ∷ w.stood ∷ []) (numbered below highest w.leaf some so) ∙ level_walked

    pub firmware_walked : w.leaf ≡ firmware T a
    unfolding firmware
    firmware_walked = rw told.0 ends

    pub admission_beyond : (i : ℕ) → T ≤ i → site_refusal ≡ admission_answer T a i
    unfolding admission_answer
    admission_beyond i h = rw (told.0, le-leb T i h)

    -- a level is admitted where it lies below the walk's end, and from there on it waits
    module _ (i : ℕ) (h : i < T) where
      admits : may_admit T a i ≡ ltb i w.leaf
      admits = admits_below T a i (omega (arith, site.most, site.long)) site.law ∙ ap (ltb i) (sym ends)

      pub admission-below : i < w.leaf → 0 ∷ 1 ∷ [] ≡ admission_answer T a i
      unfolding admission_answer
      admission-below p = rw (told.0, lt-leb T i h, admits, lt-ltb i w.leaf p)

      pub admission-waits : w.leaf ≤ i → (k : ℕ) → k ≡ blocking T a i → 0 ∷ 0 ∷ k ∷ [] ≡ admission_answer T a i
      unfolding admission_answer
      admission-waits p k e = rw (told.0, lt-leb T i h, admits, le-ltb i w.leaf p) (ap (λ (l : ℕ). 0 ∷ 0 ∷ l ∷ []) e)

      pub asked : Asked T a i
      asked = record { taken = told.0; below = h }

    pub room_beyond : (k : ℕ) → T ≤ k → level_refusal ≡ room_answer T a k
    unfolding room_answer
    room_beyond k h = rw (told.0, le-leb T k h)

    pub room_below : (k : ℕ) → k < T → (n : ℕ) → n ≡ smallest k (spare T a) → 0 ∷ n ∷ [] ≡ room_answer T a k
    unfolding room_answer
    room_below k h n e =
        rw (told.0, lt-leb T k h)
        (ap (λ (m : ℕ). 0 ∷ m ∷ []) (e ∙ sym (room-is T k h a (omega (arith, site.most, site.long)) site.law)))

  -- the firmware's number
  pub firmware_told : (walk : Result Walked SiteRefused) (n : ℕ) → walk ≡ descent T a → MatchResult walk (λ w. n ≡ w.leaf) (λ why. n ≡ 255) → n ≡ firmware T a
  firmware_told (Ok w) n e so = so ∙ firmware_walked w e
  firmware_told (Err why) n e so = so ∙ firmware_refused why e
