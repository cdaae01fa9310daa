-- The order of a plan's records, and its records of one kind: the test on the record before decides the order of all, what is chosen from the
-- records is what they hold, and a lookup by number finds it. Assumes nothing.
use Prim.Native.Nat.{ℕ, ◌≤◌, ◌<◌}
use native.Mathlib.Omega.{arith}
use mathlib.Core.Path.{◌≡◌, refl, sym, ap, ap₂, subst, ◌∙◌}
use mathlib.Core.Logic.{◌⊎◌, inl, inr, ⊎_elim}
use mathlib.Core.Bool.{Bool, true, false, ◌&&◌, ◌||◌, cond}
use mathlib.Core.List.Memᴰ
use mathlib.Core.List.{List, [], ◌∷◌, Memᴰ}
use mathlib.Core.Option.{Option, none, some}
use lib.Dec.{ltb, eqb}
use borrow.Author.Tests.{ltb-true, lt-ltb, eqb-true, eq-eqb, ne_eqb}
use Rattle.lists.proofs.CountLaws.{never_both, and_left, and_right, and_both}
use Rattle.model.specs.Plan.{Record, site, node, edge, Place, as_site, as_node, as_edge, push, chosen, sites_of, nodes_of, edges_of, entry, follows}
use Rattle.model.specs.Records.{kind, number, called, Rises, by_kind, by_number, by_called, Rising}

-- Order

rises_trans : {p q r : Record} → Rises p q → Rises q r → Rises p r
rises_trans (by_kind a) (by_kind b) = by_kind (omega arith)
rises_trans (by_kind a) (by_number b c) = by_kind (omega arith)
rises_trans (by_kind a) (by_called b c d) = by_kind (omega arith)
rises_trans (by_number a b) (by_kind c) = by_kind (omega arith)
rises_trans (by_number a b) (by_number c d) = by_number (a ∙ c) (omega arith)
rises_trans (by_number a b) (by_called c d e) = by_number (a ∙ c) (omega arith)
rises_trans (by_called a b c) (by_kind d) = by_kind (omega arith)
rises_trans (by_called a b c) (by_number d e) = by_number (a ∙ d) (omega arith)
rises_trans (by_called a b c) (by_called d e f) = by_called (a ∙ d) (b ∙ e) (omega arith)

pub never_falls : {q r : Record} → Rises q r → kind q ≤ kind r
never_falls (by_kind a) = omega arith
never_falls (by_number a b) = omega arith
never_falls (by_called a b c) = omega arith

pub within_kind : {q r : Record} → Rises q r → kind q ≡ kind r → (number q < number r) ⊎ ((number q ≡ number r) × (called q < called r))
within_kind (by_kind a) e = absurd (omega arith)
within_kind (by_number a b) e = inl b
within_kind (by_called a b c) e = inr (b, c)

-- the test on the record before decides it
or_cases : (a b : Bool) → (a || b) ≡ true → (a ≡ true) ⊎ (b ≡ true)
or_cases true b e = inl refl
or_cases false b e = inr e

or_right : (a b : Bool) → b ≡ true → (a || b) ≡ true
or_right true b e = refl
or_right false b e = e

test_rises : (q r : Record) (rs : List Record) → follows (q ∷ rs) r ≡ true → Rises q r
unfolding follows
test_rises (site s t) (site r u) rs e = by_number refl (ltb-true s r e)
test_rises (site s t) (node n r l) rs e = by_kind (omega arith)
test_rises (site s t) (edge c d) rs e = by_kind (omega arith)
test_rises (node n s l) (site r u) rs e = absurd (never_both e refl)
test_rises (node n s l) (node m r k) rs e = by_number refl (ltb-true n m e)
test_rises (node n s l) (edge c d) rs e = by_kind (omega arith)
test_rises (edge c d) (site r u) rs e = absurd (never_both e refl)
test_rises (edge c d) (node m r k) rs e = absurd (never_both e refl)
test_rises (edge c d) (edge f g) rs e =
    ⊎_elim
    (λ p. by_number refl (ltb-true c f p))
    (λ p. by_called refl (eqb-true c f (and_left (eqb c f) (ltb d g) p)) (ltb-true d g (and_right (eqb c f) (ltb d g) p)))
    (or_cases (ltb c f) (eqb c f && ltb d g) e)

rises_test : (q r : Record) (rs : List Record) → Rises q r → follows (q ∷ rs) r ≡ true
unfolding follows
rises_test (site s t) (site r u) rs h = ⊎_elim (λ p. lt-ltb s r p) (λ p. absurd (omega (arith, p.1))) (within_kind h refl)
rises_test (site s t) (node n r l) rs h = refl
rises_test (site s t) (edge c d) rs h = refl
rises_test (node n s l) (site r u) rs h = absurd (omega (arith, never_falls h))
rises_test (node n s l) (node m r k) rs h = ⊎_elim (λ p. lt-ltb n m p) (λ p. absurd (omega (arith, p.1))) (within_kind h refl)
rises_test (node n s l) (edge c d) rs h = refl
rises_test (edge c d) (site r u) rs h = absurd (omega (arith, never_falls h))
rises_test (edge c d) (node m r k) rs h = absurd (omega (arith, never_falls h))
rises_test (edge c d) (edge f g) rs h =
    ⊎_elim
    (λ p. rw (lt-ltb c f p))
    (λ p. or_right (ltb c f) (eqb c f && ltb d g) (and_both (eqb c f) (ltb d g) (eq-eqb c f p.0) (lt-ltb d g p.1)))
    (within_kind h refl)

pub follows-all : (rs : List Record) (r : Record) → Rising rs → follows rs r ≡ true → (q : Record) → Memᴰ q rs → Rises q r
follows-all [] r h e q m = absurd (Memᴰ.not-nil m)
follows-all (p ∷ rs) r h e q m =
    ⊎_elim
    (λ s. rw s (test_rises p r rs e))
    (λ t. rises_trans (h.1 q t) (test_rises p r rs e))
    (Memᴰ.cases_cons m)

pub all-follows : (rs : List Record) (r : Record) → ((q : Record) → Memᴰ q rs → Rises q r) → follows rs r ≡ true
unfolding follows
all-follows [] r h = refl
all-follows (p ∷ rs) r h = rises_test p r rs (h p (Memᴰ.head refl))

-- The records of one kind

pub past : {p q : Record} {rs : List Record} → (kind p ≡ kind q → ⊥) → Memᴰ p (q ∷ rs) → Memᴰ p rs
past h m = ⊎_elim (λ e. absurd (h (ap kind e))) (λ i. i) (Memᴰ.cases_cons m)

-- where nothing is called, the numbers of a kind rise
pub rises_number : {q r : Record} → Rises q r → kind q ≡ kind r → called r ≡ 0 → number q < number r
rises_number h e z = ⊎_elim (λ p. p) (λ p. absurd (omega (arith, p.1))) (within_kind h e)

module _ {X : Type 0} (how : Record → Option X) where
  in_push : {x : X} {xs : List X} (o : Option X) → Memᴰ x xs → Memᴰ x (push o xs)
  in_push none m = m
  in_push (some y) m = Memᴰ.tail m

  in_chosen : (rs : List Record) (r : Record) (x : X) → how r ≡ some x → Memᴰ r rs → Memᴰ x (chosen how rs)
  in_chosen [] r x e m = absurd (Memᴰ.not-nil m)
  in_chosen (q ∷ rs) r x e m =
      ⊎_elim
      (λ (s : r ≡ q). let here : how q ≡ some x = ap how (sym s) ∙ e in rw here (Memᴰ.head refl))
      (λ i. in_push (how q) (in_chosen rs r x e i))
      (Memᴰ.cases_cons m)

  pub chosen_in : (rs : List Record) (x : X) → Memᴰ x (chosen how rs) → (r : Record) × Memᴰ r rs × (how r ≡ some x)
  chosen_in [] x m = absurd (Memᴰ.not-nil m)
  chosen_in (q ∷ rs) x m = go (how q) refl m (chosen_in rs x)
    where
      go : (o : Option X) → how q ≡ o → Memᴰ x (push o (chosen how rs))
          → (Memᴰ x (chosen how rs) → (r : Record) × Memᴰ r rs × (how r ≡ some x))
          → (r : Record) × Memᴰ r (q ∷ rs) × (how r ≡ some x)
      go none e i ih = let w = ih i in (w.0, Memᴰ.tail w.1, w.2)
      go (some y) e i ih =
          ⊎_elim
          (λ (s : x ≡ y). (q, Memᴰ.head refl, e ∙ ap some (sym s)))
          (λ t. let w = ih t in (w.0, Memᴰ.tail w.1, w.2))
          (Memᴰ.cases_cons i)

-- a record of the kind is what it is chosen as
pub site_only : (r : Record) (x : ℕ × ℕ) → as_site r ≡ some x → r ≡ site x.0 x.1
site_only (site s t) x e = let same : x ≡ (s, t) = cc in rw same
site_only (node n s l) x e = let z : ◌≡◌ {A = ℕ} 0 1 = cc in absurd (omega arith)
site_only (edge c d) x e = let z : ◌≡◌ {A = ℕ} 0 1 = cc in absurd (omega arith)

pub node_only : (r : Record) (x : ℕ × Place) → as_node r ≡ some x → r ≡ node x.0 x.1.at x.1.level
node_only (site s t) x e = let z : ◌≡◌ {A = ℕ} 0 1 = cc in absurd (omega arith)
node_only (node n s l) x e = let same : x ≡ (n, record { at = s; level = l }) = cc in rw same
node_only (edge c d) x e = let z : ◌≡◌ {A = ℕ} 0 1 = cc in absurd (omega arith)

edge_only : (r : Record) (x : ℕ × ℕ) → as_edge r ≡ some x → r ≡ edge x.0 x.1
edge_only (site s t) x e = let z : ◌≡◌ {A = ℕ} 0 1 = cc in absurd (omega arith)
edge_only (node n s l) x e = let z : ◌≡◌ {A = ℕ} 0 1 = cc in absurd (omega arith)
edge_only (edge c d) x e = let same : x ≡ (c, d) = cc in rw same

module _ (rs : List Record) where
  pub in_sites : {s t : ℕ} → Memᴰ (s, t) (sites_of rs) → Memᴰ (site s t) rs
  in_sites {s} {t} m =
      let w = chosen_in as_site rs (s, t) m in subst (λ (r : Record). Memᴰ r rs) (site_only w.0 (s, t) w.2) w.1

  pub sites_in : {s t : ℕ} → Memᴰ (site s t) rs → Memᴰ (s, t) (sites_of rs)
  sites_in {s} {t} m = in_chosen as_site rs (site s t) (s, t) refl m

  pub in_nodes : {n : ℕ} {p : Place} → Memᴰ (n, p) (nodes_of rs) → Memᴰ (node n p.at p.level) rs
  in_nodes {n} {p} m =
      let w = chosen_in as_node rs (n, p) m in subst (λ (r : Record). Memᴰ r rs) (node_only w.0 (n, p) w.2) w.1

  pub nodes_in : {n s l : ℕ} → Memᴰ (node n s l) rs → Memᴰ (n, record { at = s; level = l }) (nodes_of rs)
  nodes_in {n} {s} {l} m = in_chosen as_node rs (node n s l) (n, record { at = s; level = l }) refl m

  pub in_edges : {c d : ℕ} → Memᴰ (c, d) (edges_of rs) → Memᴰ (edge c d) rs
  in_edges {c} {d} m =
      let w = chosen_in as_edge rs (c, d) m in subst (λ (r : Record). Memᴰ r rs) (edge_only w.0 (c, d) w.2) w.1

  pub edges_in : {c d : ℕ} → Memᴰ (edge c d) rs → Memᴰ (c, d) (edges_of rs)
  edges_in {c} {d} m = in_chosen as_edge rs (edge c d) (c, d) refl m

-- What stands under a number

-- the numbers of the entries fall
abbrev pub Falling : {X : Type 0} → List (ℕ × X) → Type 0
Falling [] = Unit {0}
Falling {X} (e ∷ es) = Falling es × ((d : ℕ × X) → Memᴰ d es → d.0 < e.0)

module _ {X : Type 0} where
  pub entry_in : (es : List (ℕ × X)) (n : ℕ) (x : X) → entry es n ≡ some x → Memᴰ (n, x) es
  entry_in [] n x e = let z : ◌≡◌ {A = ℕ} 0 1 = cc in absurd (omega arith)
  entry_in (d ∷ es) n x e = go (eqb d.0 n) refl e (entry_in es n x)
    where
      go : (b : Bool) → eqb d.0 n ≡ b → cond b (some d.1) (entry es n) ≡ some x → (entry es n ≡ some x → Memᴰ (n, x) es)
          → Memᴰ (n, x) (d ∷ es)
      go true q f ih =
          let held : x ≡ d.1 = cc in
          let found : (n, x) ≡ d = ap₂ (λ (k : ℕ) (y : X). (k, y)) (sym (eqb-true d.0 n q)) held in
          Memᴰ.head found
      go false q f ih = Memᴰ.tail (ih f)

  pub in_entry : (es : List (ℕ × X)) (n : ℕ) (x : X) → Falling es → Memᴰ (n, x) es → entry es n ≡ some x
  in_entry [] n x h m = absurd (Memᴰ.not-nil m)
  in_entry (d ∷ es) n x h m =
      ⊎_elim
      (λ (e : (n, x) ≡ d).
      let same : d.0 ≡ n = ap (λ (p : ℕ × X). p.0) (sym e) in
      let held : d.1 ≡ x = ap (λ (p : ℕ × X). p.1) (sym e) in
      rw (eq-eqb d.0 n same, held))
      (λ i. rw (ne_eqb d.0 n (λ e. omega (arith, h.1 (n, x) i))) (in_entry es n x h.0 i))
      (Memᴰ.cases_cons m)

  pub falling : (how : Record → Option (ℕ × X))
      → ((q r : Record) (x y : ℕ × X) → Rises q r → how q ≡ some x → how r ≡ some y → x.0 < y.0)
      → (rs : List Record) → Rising rs → Falling (chosen how rs)
  falling how key [] h = tt
  falling how key (r ∷ rs) h = go (how r) refl (falling how key rs h.0)
    where
      go : (o : Option (ℕ × X)) → how r ≡ o → Falling (chosen how rs) → Falling (push o (chosen how rs))
      go none e ih = ih
      go (some y) e ih = (ih, (λ d m. let w = chosen_in how rs d m in key w.0 r d y (h.1 w.0 w.1) w.2 e))
