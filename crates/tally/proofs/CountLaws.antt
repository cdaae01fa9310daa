-- The counts of all calls, one call after the other: those of the calls up to a place. Assumes nothing.
use Prim.Native.Nat.{ℕ, zero, suc, ◌+◌, ◌*◌, ◌≤◌, ◌<◌}
use native.Mathlib.Omega.{arith}
use native.Mathlib.Numerals.{add-one}
use mathlib.Core.Path.{◌≡◌, refl, sym, ap, subst, ◌∙◌}
use mathlib.Core.Bool.{Bool}
use mathlib.Core.List.{List, [], ◌∷◌, ◌++◌}
use lib.ListN.{length, get_or, take, replicate, length-replicate, get_or-replicate}
use lib.Seq.{take-suc, take_all}
use Rattle.ids.specs.Limits.{sites, most_threads}
use Rattle.lists.specs.Pick.{count}
use Rattle.lists.proofs.PlaceLaws.{tell_there, member_there}
use Rattle.model.specs.Plan.{Record}
use Rattle.model.specs.Net.{Call, counts}
use Rattle.model.proofs.CountsLaws.{of_level, counts_at}
use Rattle.moves.specs.Held.{key_of, node_number}
use Rattle.moves.proofs.KeyLaws.{nobody}
use Rattle.tally.specs.Tally.{CountsTell, TooMany, Behind, Counting}

zero_at : (n i : ℕ) → ◌≡◌ {A = ℕ} (get_or (replicate n 0) i 0) 0
zero_at zero i = refl
zero_at (suc n) zero = refl
zero_at (suc n) (suc i) = zero_at n i

-- an array of zeros
pub none_told : (rs : List Record) → CountsTell rs [] (replicate (sites * most_threads) 0)
unfolding counts
none_told rs =
    record {
      whole = length-replicate {A = ℕ} (sites * most_threads) 0;
      each = λ s k hs hk. zero_at (sites * most_threads) (most_threads * s + k) ∙ sym (get_or-replicate most_threads k 0 0 hk);
    }

count-take : (f : Call → Bool) (cs : List Call) (n : ℕ) → count f (take n cs) ≤ count f cs
unfolding count
count-take f cs zero = omega arith
count-take f [] (suc n) = omega arith
count-take f (c ∷ cs) (suc n) = omega (arith, count-take f cs n)

more_taken : (cs : List Call) (i : ℕ) → i < length cs → take (i + 1) cs ≡ take i cs ++ (get_or cs i nobody ∷ [])
more_taken cs i h = ap (λ (n : ℕ). take n cs) (add-one i) ∙ take-suc cs i nobody h

module _ {rs : List Record} {cs : List Call} {keys open-nodes : List ℕ} {used : ℕ} {places levels : List ℕ}
    (ok : Counting rs cs keys open-nodes used places levels) (i : ℕ) (inside : i < used) where
  room : i < length cs
  room = omega (arith, ok.count)

  -- the call at a place, behind those before it
  pub behind : {numbers : List ℕ} → CountsTell rs (take i cs) numbers
      → Behind rs (take i cs) (get_or cs i nobody) (get_or keys i 0) (get_or open-nodes i 0) places levels numbers
  behind told =
      record {
        placing = ok.placing;
        told = told;
        key_is = ok.of_keys.each i ∙ tell_there (key_of rs) cs i nobody room;
        node_is = ok.of_nodes.each i ∙ tell_there node_number cs i nobody room;
        known = ok.known (get_or cs i nobody) (member_there cs i nobody room);
      }

  pub counted_on : {numbers : List ℕ} → CountsTell rs (take i cs ++ (get_or cs i nobody ∷ [])) numbers → CountsTell rs (take (i + 1) cs) numbers
  counted_on {numbers} h = subst (λ (ds : List Call). CountsTell rs ds numbers) (sym (more_taken cs i room)) h

  -- too many of some are too many of all
  pub counted_over : TooMany rs (take i cs ++ (get_or cs i nobody ∷ [])) → TooMany rs cs
  counted_over over =
      let pass = ok.placing.pass in
      record {
        site = over.site;
        level = over.level;
        site_inside = over.site_inside;
        level_inside = over.level_inside;
        many =
            omega (
              arith,
              over.many,
              counts_at rs over.site pass (take i cs ++ (get_or cs i nobody ∷ [])) over.level,
              ap (count (of_level rs over.site over.level)) (more_taken cs i room),
              count-take (of_level rs over.site over.level) cs (i + 1),
              counts_at rs over.site pass cs over.level,
            );
      }

pub counted_all : {rs : List Record} {cs : List Call} {numbers : List ℕ} (i used : ℕ) → used ≡ length cs → used ≤ i → CountsTell rs (take i cs) numbers
    → CountsTell rs cs numbers
counted_all {rs} {cs} {numbers} i used e h t = subst (λ (ds : List Call). CountsTell rs ds numbers) (take_all i cs (omega arith)) t
