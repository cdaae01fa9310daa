-- The rooms of a site from its highest level down: what is above a level is added up on the way, and each level is tested as it is passed. Assumes nothing.
use Prim.Native.Nat.{ℕ, suc, ◌+◌, ◌-◌, ◌≤◌, ◌<◌}
use native.Mathlib.Omega.{arith}
use mathlib.Core.Path.{◌≡◌, sym, ap, subst, ◌∙◌}
use mathlib.Core.Logic.{⊎_elim}
use mathlib.Core.Bool.{false}
use Rattle.std.specs.Prelude.{Some}
use mathlib.Core.List.{List}
use lib.ListN.{length, get_or, set, length-set}
use lib.Seq.{get_or-set_same, get_or-set_other}
use Rattle.ids.specs.Limits.{most_threads}
use Rattle.lists.specs.Fill.{Filled}
use Rattle.lists.proofs.CountLaws.{lt_or_ge, not_true_false}
use Rattle.lists.proofs.FillLaws.{filled_none}
use Rattle.model.specs.Site.{A, lawful}
use Rattle.model.proofs.SiteLaws.{A-step, lawful_at, lawful-all}
use Rattle.tally.specs.Tally.{SiteCounted, SiteRoomed, room_from}

-- the levels from k on are done
pub record DoneFrom (most : ℕ) (a : List ℕ) (base k above : ℕ) (old new : List ℕ) : Type 0 where
  pub above_is : above ≡ A a k
  pub lawful_above : (j : ℕ) → k ≤ j → j < most → A a j + j ≤ most
  pub rooms_above : Filled (room_from most a base) (base + k) (base + most) old new

module _ {numbers : List ℕ} {base most : ℕ} {a : List ℕ} (ok : SiteCounted numbers base most a) where
  pub from_top : (old : List ℕ) → DoneFrom most a base most 0 old old
  from_top old =
      record { above_is = sym ok.none_above; lawful_above = λ j low high. absurd (omega arith); rooms_above = filled_none _ (base + most) old }

  module _ {k above : ℕ} {old new : List ℕ} (h : DoneFrom most a base k above old new) (some_level : 0 < k) (levels : k ≤ most_threads) where
    -- what is at the next level or above it
    pub above_next : above + get_or numbers (base + (k - 1)) 0 ≡ A a (k - 1)
    above_next =
        let next : suc (k - 1) ≡ k = omega arith in
        omega (arith, A-step a (k - 1), ap (A a) next, h.above_is, ok.each (k - 1) (omega arith))

    pub not_lawful : k ≤ most → most - (k - 1) < above + get_or numbers (base + (k - 1)) 0 → false ≡ lawful most a
    not_lawful high over =
        sym (not_true_false (lawful most a) (λ e. absurd (omega (arith, lawful_at most a e (k - 1) (omega arith), above_next))))

    pub from_next : k ≤ most → base + (k - 1) < length new → (v : ℕ) → above + get_or numbers (base + (k - 1)) 0 ≤ most - (k - 1)
        → v ≡ most - (k - 1) - (above + get_or numbers (base + (k - 1)) 0)
        → DoneFrom most a base (k - 1) (above + get_or numbers (base + (k - 1)) 0) old (set new (base + (k - 1)) v)
    unfolding room_from
    from_next high inside v fits e =
        record {
          above_is = above_next;
          lawful_above = λ j low below.
              ⊎_elim
              (λ (p : j < k).
              let same : k - 1 ≡ j = omega arith in
              omega (arith, ap (A a) same, above_next, ap (λ (n : ℕ). get_or numbers (base + n) 0) same))
              (λ (p : k ≤ j). h.lawful_above j p below)
              (lt_or_ge j k);
          rooms_above = record { long = length-set new place v ∙ h.rooms_above.long; inside = within; outside = without };
        }
      where
        place : ℕ
        place = base + (k - 1)

        within : (n : ℕ) → place ≤ n → n < base + most → get_or (set new place v) n 0 ≡ most - (n - base) - A a (n - base)
        within n low below =
            ⊎_elim
            (λ (p : n < base + k).
            let same : place ≡ n = omega arith in
            let level : n - base ≡ k - 1 = omega arith in
            subst (λ (m : ℕ). get_or (set new place v) m 0 ≡ v) same (get_or-set_same new place v 0 inside)
            ∙ omega (arith, ap (A a) level, above_next))
            (λ (p : base + k ≤ n). get_or-set_other new place n v 0 (λ q. absurd (omega arith)) ∙ h.rooms_above.inside n p below)
            (lt_or_ge n (base + k))

        without : (n : ℕ) → (place ≤ n → n < base + most → ⊥) → get_or (set new place v) n 0 ≡ get_or old n 0
        without n out =
            get_or-set_other new place n v 0 (λ q. out (omega arith) (omega arith)) ∙ h.rooms_above.outside n (λ low below. out (omega arith) below)

  pub site_lawful : {k above : ℕ} {old new : List ℕ} → DoneFrom most a base k above old new → k ≡ 0 → SiteRoomed most a base old (Some new)
  site_lawful {k} {above} {old} {new} h e = (
    sym (lawful-all most a (λ j below. h.lawful_above j (omega arith) below)),
    subst (λ (n : ℕ). Filled (room_from most a base) n (base + most) old new) (omega arith) h.rooms_above,
  )
