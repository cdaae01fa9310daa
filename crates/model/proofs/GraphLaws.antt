-- The computed closure `via` of a relation is the relation's paths, and a dependence is a path with a call edge on it. Sound by joining
-- paths; complete because `via` over a list of nodes may pass by each of them, so that a path is followed step by step.
-- Assumes nothing.
use mathlib.Core.Path.{◌≡◌, refl, sym, subst}
use mathlib.Core.Bool.{Bool, true, false, ◌&&◌, ◌||◌}
use mathlib.Core.List.Memᴰ
use mathlib.Core.List.{List, [], ◌∷◌, Memᴰ}
use mathlib.Core.Logic.{◌↔◌, ◌⊎◌, inl, inr, ⊎_elim}
use Prim.Native.Nat.{ℕ}
use lib.Dec.{T, eqb, eqb→eq, eqb_refl}
use mir.Facts.{and_yes, yes_and}
use Rattle.model.specs.Graph.{either, Reach, stay, go, Depends, by_call, by_site, via}

-- a test that is true holds, and one that holds is true
pub yes : {t : Bool} → t ≡ true → T t
yes e = subst T (sym e) tt

pub is_true : (t : Bool) → T t → t ≡ true
is_true true h = refl
is_true false h = absurd h

-- an "or" that holds, by its sides
pub or_cases : (a b : Bool) → T (a || b) → T a ⊎ T b
or_cases true b h = inl tt
or_cases false b h = inr h

pub or_by_left : (a b : Bool) → T a → T (a || b)
or_by_left true b h = tt
or_by_left false b h = absurd h

pub or_by_right : (a b : Bool) → T b → T (a || b)
or_by_right true b h = tt
or_by_right false b h = h

-- two paths, one after the other, are a path
pub reach_join : {s : ℕ → ℕ → Bool} {n m l : ℕ} → Reach s n m → Reach s m l → Reach s n l
reach_join stay q = q
reach_join (go e p) q = go e (reach_join p q)

-- a path of a relation is one of any relation that holds it
pub reach_more : {s t : ℕ → ℕ → Bool} → ((n m : ℕ) → T (s n m) → T (t n m)) → {n m : ℕ} → Reach s n m → Reach t n m
reach_more more stay = stay
reach_more more (go {n = n} {m = m} e p) = go (more n m e) (reach_more more p)

-- a dependence of two relations is one of any two that hold them
pub depends_more : {c s d t : ℕ → ℕ → Bool} → ((n m : ℕ) → T (c n m) → T (d n m)) → ((n m : ℕ) → T (s n m) → T (t n m)) →
    {n m : ℕ} → Depends c s n m → Depends d t n m
depends_more {c} {s} {d} {t} calls steps (by_call {n = n} {m = m} e p) = by_call (calls n m e) (reach_more each p)
  where
    each : (n m : ℕ) → T (either c s n m) → T (either d t n m)
    each n m h =
        ⊎_elim
        (λ a. or_by_left (d n m) (t n m) (calls n m a))
        (λ b. or_by_right (d n m) (t n m) (steps n m b))
        (or_cases (c n m) (s n m) h)
depends_more calls steps (by_site {n = n} {m = m} e d) = by_site (steps n m e) (depends_more calls steps d)

module _ (s : ℕ → ℕ → Bool) where
  -- `via` is sound: where it holds there is a path
  pub via_sound : (ks : List ℕ) {n m : ℕ} → T (via s ks n m) → Reach s n m
  via_sound [] {n} {m} h = ⊎_elim same step (or_cases (eqb n m) (s n m) h)
    where
      same : T (eqb n m) → Reach s n m
      same e = subst (λ (x : ℕ). Reach s n x) (eqb→eq n m e) stay

      step : T (s n m) → Reach s n m
      step e = go e stay
  via_sound (k ∷ ks) {n} {m} h =
      joined (λ n m. via_sound ks {n = n} {m = m}) (or_cases (via s ks n m) (via s ks n k && via s ks k m) h)
    where
      joined : ((n m : ℕ) → T (via s ks n m) → Reach s n m) → T (via s ks n m) ⊎ T (via s ks n k && via s ks k m) → Reach s n m
      joined sound (inl a) = sound n m a
      joined sound (inr b) =
          let both = and_yes (via s ks n k) (via s ks k m) b in
          reach_join (sound n k both.0) (sound k m both.1)

  -- `via` holds from a node to itself
  pub via_stay : (ks : List ℕ) (n : ℕ) → T (via s ks n n)
  via_stay [] n = or_by_left (eqb n n) (s n n) (eqb_refl n)
  via_stay (k ∷ ks) n = or_by_left (via s ks n n) (via s ks n k && via s ks k n) (via_stay ks n)

  -- `via` holds along each step
  via-step : (ks : List ℕ) (n m : ℕ) → T (s n m) → T (via s ks n m)
  via-step [] n m e = or_by_right (eqb n m) (s n m) e
  via-step (k ∷ ks) n m e = or_by_left (via s ks n m) (via s ks n k && via s ks k m) (via-step ks n m e)

  -- what leads to the first listed node, or away from it, does so by way of the others alone
  to_first : (k : ℕ) (ks : List ℕ) (n : ℕ) → T (via s (k ∷ ks) n k) → T (via s ks n k)
  to_first k ks n h =
      ⊎_elim (λ a. a) (λ b. (and_yes (via s ks n k) (via s ks k k) b).0) (or_cases (via s ks n k) (via s ks n k && via s ks k k) h)

  from_first : (k : ℕ) (ks : List ℕ) (m : ℕ) → T (via s (k ∷ ks) k m) → T (via s ks k m)
  from_first k ks m h =
      ⊎_elim (λ a. a) (λ b. (and_yes (via s ks k k) (via s ks k m) b).1) (or_cases (via s ks k m) (via s ks k k && via s ks k m) h)

  -- by way of the first listed node
  by_first : (k : ℕ) (ks : List ℕ) (n m : ℕ) → T (via s ks n k) → T (via s ks k m) → T (via s (k ∷ ks) n m)
  by_first k ks n m a b = or_by_right (via s ks n m) (via s ks n k && via s ks k m) (yes_and (via s ks n k) (via s ks k m) a b)

  -- `via` passes by each listed node: by the first as it is defined, by another in each of the four ways to come there and to go on
  via_join : (ks : List ℕ) (x : ℕ) → Memᴰ x ks → (n m : ℕ) → T (via s ks n x) → T (via s ks x m) → T (via s ks n m)
  via_join [] x listed n m a b = absurd (Memᴰ.not-nil listed)
  via_join (k ∷ ks) x listed n m a b = ⊎_elim first (λ rest. other (via_join ks x rest)) (Memᴰ.cases_cons listed)
    where
      first : x ≡ k → T (via s (k ∷ ks) n m)
      first e =
          by_first k ks n m
          (to_first k ks n (subst (λ (y : ℕ). T (via s (k ∷ ks) n y)) e a))
          (from_first k ks m (subst (λ (y : ℕ). T (via s (k ∷ ks) y m)) e b))

      other : ((n m : ℕ) → T (via s ks n x) → T (via s ks x m) → T (via s ks n m)) → T (via s (k ∷ ks) n m)
      other join =
          ways (or_cases (via s ks n x) (via s ks n k && via s ks k x) a) (or_cases (via s ks x m) (via s ks x k && via s ks k m) b)
        where
          ways : T (via s ks n x) ⊎ T (via s ks n k && via s ks k x) → T (via s ks x m) ⊎ T (via s ks x k && via s ks k m) → T (via s (k ∷ ks) n m)
          ways (inl to) (inl on) = or_by_left (via s ks n m) (via s ks n k && via s ks k m) (join n m to on)
          ways (inl to) (inr on) =
              let on = and_yes (via s ks x k) (via s ks k m) on in
              by_first k ks n m (join n k to on.0) on.1
          ways (inr to) (inl on) =
              let to = and_yes (via s ks n k) (via s ks k x) to in
              by_first k ks n m to.0 (join k m to.1 on)
          ways (inr to) (inr on) =
              by_first k ks n m (and_yes (via s ks n k) (via s ks k x) to).0 (and_yes (via s ks x k) (via s ks k m) on).1

  -- `via` is complete, where every step leads to a listed node: it holds where there is a path
  pub via_complete : (ks : List ℕ) → ((n m : ℕ) → T (s n m) → Memᴰ m ks) → {n m : ℕ} → Reach s n m → T (via s ks n m)
  via_complete ks listed (stay {n = n}) = via_stay ks n
  via_complete ks listed (go {n = n} {m = m} {l = l} e p) =
      via_join ks m (listed n m e) n l (via-step ks n m e) (via_complete ks listed p)

module _ (calls steps : ℕ → ℕ → Bool) where
  -- n depends on m just where a call edge leads from a node that n reaches to a node that reaches m
  pub depends_edge : {n m : ℕ} →
      Depends calls steps n m → (u : ℕ) × (v : ℕ) × Reach (either calls steps) n u × T (calls u v) × Reach (either calls steps) v m
  depends_edge (by_call {n = n} {m = m} e p) = (n, m, stay, e, p)
  depends_edge (by_site {n = n} {m = m} e d) =
      let found = depends_edge d in
      (found.0, found.1, go (or_by_right (calls n m) (steps n m) e) found.2, found.3, found.4)

  pub edge_depends : {n u v m : ℕ} → Reach (either calls steps) n u → T (calls u v) → Reach (either calls steps) v m → Depends calls steps n m
  edge_depends stay e q = by_call e q
  edge_depends {u = u} {v = v} (go {n = n} {m = x} d p) e q =
      ⊎_elim
      (λ c. by_call c (reach_join p (go (or_by_left (calls u v) (steps u v) e) q)))
      (λ w. by_site w (edge_depends p e q))
      (or_cases (calls n x) (steps n x) d)

  -- a dependence is a path, and with a path behind it a dependence
  pub depends_reach : {n m : ℕ} → Depends calls steps n m → Reach (either calls steps) n m
  depends_reach (by_call {n = n} {m = m} e p) = go (or_by_left (calls n m) (steps n m) e) p
  depends_reach (by_site {n = n} {m = m} e d) = go (or_by_right (calls n m) (steps n m) e) (depends_reach d)

  pub depends_on : {n m l : ℕ} → Depends calls steps n m → Reach (either calls steps) m l → Depends calls steps n l
  depends_on (by_call e p) q = by_call e (reach_join p q)
  depends_on (by_site e d) q = by_site e (depends_on d q)

  -- some node depends on itself just where a call edge is closed backwards by a path
  pub circle_edge : ((n : ℕ) × Depends calls steps n n) ↔ ((u : ℕ) × (v : ℕ) × T (calls u v) × Reach (either calls steps) v u)
  circle_edge = (there, back)
    where
      there : (n : ℕ) × Depends calls steps n n → (u : ℕ) × (v : ℕ) × T (calls u v) × Reach (either calls steps) v u
      there (n, d) = let found = depends_edge d in (found.0, found.1, found.3, reach_join found.4 found.2)

      back : (u : ℕ) × (v : ℕ) × T (calls u v) × Reach (either calls steps) v u → (n : ℕ) × Depends calls steps n n
      back (u, v, e, p) = (u, by_call e p)

  module _ (none : (n m : ℕ) → T (steps n m) → ⊥) where
    -- with no step within a site, a path is one of call edges alone
    pub reach_calls : {n m : ℕ} → Reach (either calls steps) n m ↔ Reach calls n m
    reach_calls = (reach_more call, reach_more (λ n m. or_by_left (calls n m) (steps n m)))
      where
        call : (n m : ℕ) → T (either calls steps n m) → T (calls n m)
        call n m h = ⊎_elim (λ c. c) (λ w. absurd (none n m w)) (or_cases (calls n m) (steps n m) h)

    -- with no step within a site, some node depends on itself just where call edges make a loop
    pub circle_loop : ((n : ℕ) × Depends calls steps n n) ↔ ((u : ℕ) × (v : ℕ) × T (calls u v) × Reach calls v u)
    circle_loop = (there, back)
      where
        there : (n : ℕ) × Depends calls steps n n → (u : ℕ) × (v : ℕ) × T (calls u v) × Reach calls v u
        there d = let found = circle_edge.0 d in (found.0, found.1, found.2, reach_calls.0 found.3)

        back : (u : ℕ) × (v : ℕ) × T (calls u v) × Reach calls v u → (n : ℕ) × Depends calls steps n n
        back l = circle_edge.1 (l.0, l.1, l.2, reach_calls.1 l.3)
