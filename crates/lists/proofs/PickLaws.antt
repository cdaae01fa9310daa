-- Laws of lists under a test: what counting, looking and picking give of a list with one entry more, one less or one changed. By induction over the
-- list, with a case split on the test at its front. Assumes nothing.
use Prim.Native.Nat.{ℕ, suc, ◌+◌, ◌≤◌, ◌<◌}
use native.Mathlib.Omega.{arith}
use mathlib.Core.Path.{◌≡◌, refl, sym, ap, ◌∙◌}
use mathlib.Core.Logic.{◌⊎◌, inl, inr, ⊎_elim}
use mathlib.Core.Bool.{Bool, true, false, ◌&&◌, ◌||◌, cond}
use mathlib.Core.List.Memᴰ
use mathlib.Core.List.{List, [], ◌∷◌, ◌++◌, Memᴰ}
use mathlib.Core.Option.{Option, none, some}
use lib.ListN.{length}
use lib.Dec.{ltb}
use borrow.Author.Tests.{lt-ltb}
use Rattle.lists.specs.Count.{one}
use Rattle.lists.specs.Pick.{count, any, all, found, without, changed, picked}
use Rattle.lists.proofs.CountLaws.{never_both, and_left, and_right, and_both}

pub one_most : (b : Bool) → one b ≤ 1
one_most true = omega arith
one_most false = omega arith

module _ {A : Type 0} where
  -- One entry more, at the end

  pub count_more : (f : A → Bool) (xs : List A) (y : A) → count f (xs ++ (y ∷ [])) ≡ count f xs + one (f y)
  unfolding count
  count_more f [] y = omega arith
  count_more f (x ∷ xs) y = omega (arith, count_more f xs y)

  pub picked_more : (f : A → Bool) (xs : List A) (y : A) → picked f (xs ++ (y ∷ [])) ≡ picked f xs ++ cond (f y) (y ∷ []) []
  unfolding picked
  picked_more f [] y = go (f y)
    where
      go : (b : Bool) → cond b (y ∷ []) [] ≡ [] ++ cond b (y ∷ []) []
      go true = refl
      go false = refl
  picked_more f (x ∷ xs) y = go (f x) (picked_more f xs y)
    where
      go : (b : Bool) → picked f (xs ++ (y ∷ [])) ≡ picked f xs ++ cond (f y) (y ∷ []) []
          → cond b (x ∷ picked f (xs ++ (y ∷ []))) (picked f (xs ++ (y ∷ []))) ≡ cond b (x ∷ picked f xs) (picked f xs) ++ cond (f y) (y ∷ []) []
      go true e = ap (λ (l : List A). x ∷ l) e
      go false e = e

  -- The first that passes

  -- it is in the list and passes
  pub found_in : (f : A → Bool) (xs : List A) (y : A) → found f xs ≡ some y → Memᴰ y xs × (f y ≡ true)
  unfolding found
  found_in f [] y e = let z : ◌≡◌ {A = ℕ} 0 1 = cc in absurd (omega arith)
  found_in f (x ∷ xs) y e = go (f x) refl e (found_in f xs y)
    where
      go : (b : Bool) → f x ≡ b → cond b (some x) (found f xs) ≡ some y → (found f xs ≡ some y → Memᴰ y xs × (f y ≡ true))
          → Memᴰ y (x ∷ xs) × (f y ≡ true)
      go true t g ih = let same : y ≡ x = cc in (Memᴰ.head same, ap f same ∙ t)
      go false t g ih = let w = ih g in (Memᴰ.tail w.0, w.1)

  -- where there is none, no entry passes
  pub found_none : (f : A → Bool) (xs : List A) → found f xs ≡ none → (y : A) → Memᴰ y xs → f y ≡ false
  unfolding found
  found_none f [] e y m = absurd (Memᴰ.not-nil m)
  found_none f (x ∷ xs) e y m = go (f x) refl e (found_none f xs)
    where
      go : (b : Bool) → f x ≡ b → cond b (some x) (found f xs) ≡ none
          → (found f xs ≡ none → (z : A) → Memᴰ z xs → f z ≡ false) → f y ≡ false
      go true t g ih = let z : ◌≡◌ {A = ℕ} 0 1 = cc in absurd (omega arith)
      go false t g ih = ⊎_elim (λ (same : y ≡ x). ap f same ∙ t) (λ i. ih g y i) (Memᴰ.cases_cons m)

  -- where an entry passes, there is a first
  pub found_some : (f : A → Bool) (xs : List A) (y : A) → Memᴰ y xs → f y ≡ true → (z : A) × (found f xs ≡ some z)
  found_some f xs y m t = go (found f xs) refl
    where
      go : (o : Option A) → found f xs ≡ o → (z : A) × (found f xs ≡ some z)
      go none e = absurd (never_both t (found_none f xs e y m))
      go (some z) e = (z, e)

  pub found_more : (f : A → Bool) (xs : List A) (y z : A) → found f xs ≡ some z → found f (xs ++ (y ∷ [])) ≡ some z
  unfolding found
  found_more f [] y z e = let i : ◌≡◌ {A = ℕ} 0 1 = cc in absurd (omega arith)
  found_more f (x ∷ xs) y z e = go (f x) e (found_more f xs y z)
    where
      go : (b : Bool) → cond b (some x) (found f xs) ≡ some z → (found f xs ≡ some z → found f (xs ++ (y ∷ [])) ≡ some z)
          → cond b (some x) (found f (xs ++ (y ∷ []))) ≡ some z
      go true g ih = g
      go false g ih = ih g

  -- two tests that agree on the entries find the same
  pub found_alike : (f g : A → Bool) (xs : List A) → ((x : A) → Memᴰ x xs → f x ≡ g x) → found f xs ≡ found g xs
  unfolding found
  found_alike f g [] h = refl
  found_alike f g (x ∷ xs) h =
      let ih = found_alike f g xs (λ y m. h y (Memᴰ.tail m)) in
      rw (h x (Memᴰ.head refl), ih)

  -- the first that passes both is the first of those that pass one that passes the other
  pub found-picked : (f g : A → Bool) (xs : List A) → found (λ x. f x && g x) xs ≡ found g (picked f xs)
  unfolding found picked
  found-picked f g [] = refl
  found-picked f g (x ∷ xs) = go (f x) (found-picked f g xs)
    where
      go : (b : Bool) → found (λ y. f y && g y) xs ≡ found g (picked f xs)
          → cond (b && g x) (some x) (found (λ y. f y && g y) xs) ≡ found g (cond b (x ∷ picked f xs) (picked f xs))
      go true e = rw e
      go false e = e

  -- Counting

  pub count_none : (f : A → Bool) (xs : List A) → ((x : A) → Memᴰ x xs → f x ≡ false) → count f xs ≡ 0
  unfolding count
  count_none f [] h = refl
  count_none f (x ∷ xs) h = omega (arith, ap one (h x (Memᴰ.head refl)), count_none f xs (λ y m. h y (Memᴰ.tail m)))

  -- an entry that passes is counted
  pub count-some : (f : A → Bool) (xs : List A) (y : A) → Memᴰ y xs → f y ≡ true → 1 ≤ count f xs
  unfolding count
  count-some f [] y m t = absurd (Memᴰ.not-nil m)
  count-some f (x ∷ xs) y m t =
      ⊎_elim
      (λ (same : y ≡ x). omega (arith, ap one (ap f (sym same) ∙ t)))
      (λ i. omega (arith, count-some f xs y i t))
      (Memᴰ.cases_cons m)

  -- where some are counted, one of them is in the list
  pub some_counted : (f : A → Bool) (xs : List A) → 1 ≤ count f xs → (y : A) × Memᴰ y xs × (f y ≡ true)
  some_counted f xs h = go (found f xs) refl
    where
      go : (o : Option A) → found f xs ≡ o → (y : A) × Memᴰ y xs × (f y ≡ true)
      go none e = absurd (omega (arith, count_none f xs (found_none f xs e)))
      go (some y) e = let w = found_in f xs y e in (y, w.0, w.1)

  -- a test that lets through no more counts no more
  pub count_fewer : (f g : A → Bool) (xs : List A) → ((x : A) → Memᴰ x xs → f x ≡ true → g x ≡ true) → count f xs ≤ count g xs
  unfolding count
  count_fewer f g [] h = omega arith
  count_fewer f g (x ∷ xs) h =
      omega (arith, go (f x) refl, count_fewer f g xs (λ y m. h y (Memᴰ.tail m)))
    where
      go : (b : Bool) → f x ≡ b → one (f x) ≤ one (g x)
      go true e = omega (arith, ap one e, ap one (h x (Memᴰ.head refl) e))
      go false e = omega (arith, ap one e)

  -- and one that keeps an entry out counts fewer
  pub count_less : (f g : A → Bool) (xs : List A) → ((x : A) → Memᴰ x xs → f x ≡ true → g x ≡ true)
      → (y : A) → Memᴰ y xs → f y ≡ false → g y ≡ true → count f xs < count g xs
  unfolding count
  count_less f g [] h y m out into = absurd (Memᴰ.not-nil m)
  count_less f g (x ∷ xs) h y m out into =
      ⊎_elim
      (λ (same : y ≡ x). omega (arith, ap one (ap f (sym same) ∙ out), ap one (ap g (sym same) ∙ into), count_fewer f g xs (λ z i. h z (Memᴰ.tail i))))
      (λ i. omega (arith, here (f x) refl, count_less f g xs (λ z j. h z (Memᴰ.tail j)) y i out into))
      (Memᴰ.cases_cons m)
    where
      here : (b : Bool) → f x ≡ b → one (f x) ≤ one (g x)
      here true e = omega (arith, ap one e, ap one (h x (Memᴰ.head refl) e))
      here false e = omega (arith, ap one e)

  pub count_alike : (f g : A → Bool) (xs : List A) → ((x : A) → Memᴰ x xs → f x ≡ g x) → count f xs ≡ count g xs
  unfolding count
  count_alike f g [] h = refl
  count_alike f g (x ∷ xs) h =
      omega (arith, ap one (h x (Memᴰ.head refl)), count_alike f g xs (λ y m. h y (Memᴰ.tail m)))

  pub count-all : (xs : List A) → count (λ x. true) xs ≡ length xs
  unfolding count
  count-all [] = refl
  count-all (x ∷ xs) = omega (arith, count-all xs)

  -- of what passes at most once there is one entry
  pub only_one : (f : A → Bool) (xs : List A) → count f xs ≤ 1
      → (y z : A) → Memᴰ y xs → Memᴰ z xs → f y ≡ true → f z ≡ true → y ≡ z
  unfolding count
  only_one f [] h y z m n s t = absurd (Memᴰ.not-nil m)
  only_one f (x ∷ xs) h y z m n s t =
      ways (only_one f xs (omega arith) y z) (Memᴰ.cases_cons m) (Memᴰ.cases_cons n)
    where
      ways : (Memᴰ y xs → Memᴰ z xs → f y ≡ true → f z ≡ true → y ≡ z) → (y ≡ x) ⊎ Memᴰ y xs → (z ≡ x) ⊎ Memᴰ z xs → y ≡ z
      ways ih (inl p) (inl q) = p ∙ sym q
      ways ih (inl p) (inr q) = absurd (omega (arith, ap one (ap f (sym p) ∙ s), count-some f xs z q t))
      ways ih (inr p) (inl q) = absurd (omega (arith, ap one (ap f (sym q) ∙ t), count-some f xs y p s))
      ways ih (inr p) (inr q) = ih p q s t

  -- One entry less

  pub without_none : (f : A → Bool) (xs : List A) → found f xs ≡ none → without f xs ≡ xs
  unfolding found without
  without_none f [] e = refl
  without_none f (x ∷ xs) e = go (f x) e (without_none f xs)
    where
      go : (b : Bool) → cond b (some x) (found f xs) ≡ none → (found f xs ≡ none → without f xs ≡ xs) → cond b xs (x ∷ without f xs) ≡ x ∷ xs
      go true g ih = let z : ◌≡◌ {A = ℕ} 0 1 = cc in absurd (omega arith)
      go false g ih = ap (λ (l : List A). x ∷ l) (ih g)

  pub in_without : (f : A → Bool) (xs : List A) (y : A) → Memᴰ y (without f xs) → Memᴰ y xs
  unfolding without
  in_without f [] y m = m
  in_without f (x ∷ xs) y m = go (f x) m (in_without f xs y)
    where
      go : (b : Bool) → Memᴰ y (cond b xs (x ∷ without f xs)) → (Memᴰ y (without f xs) → Memᴰ y xs) → Memᴰ y (x ∷ xs)
      go true i ih = Memᴰ.tail i
      go false i ih = ⊎_elim (λ e. Memᴰ.head e) (λ j. Memᴰ.tail (ih j)) (Memᴰ.cases_cons i)

  -- every count falls by the entry that is taken out
  pub count-without : (f g : A → Bool) (xs : List A) (y : A) → found f xs ≡ some y → count g xs ≡ one (g y) + count g (without f xs)
  unfolding found without count
  count-without f g [] y e = let z : ◌≡◌ {A = ℕ} 0 1 = cc in absurd (omega arith)
  count-without f g (x ∷ xs) y e = go (f x) e (count-without f g xs y)
    where
      go : (b : Bool) → cond b (some x) (found f xs) ≡ some y → (found f xs ≡ some y → count g xs ≡ one (g y) + count g (without f xs))
          → one (g x) + count g xs ≡ one (g y) + count g (cond b xs (x ∷ without f xs))
      go true h ih = let same : x ≡ y = cc in omega (arith, ap (λ (z : A). one (g z)) same)
      go false h ih = omega (arith, ih h)

  pub length_without : (f : A → Bool) (xs : List A) (y : A) → found f xs ≡ some y → length xs ≡ suc (length (without f xs))
  length_without f xs y e =
      omega (arith, count-without f (λ x. true) xs y e, count-all xs, count-all (without f xs))

  -- what passes none of the tests together is found as before
  pub found-without : (f g : A → Bool) (xs : List A) → ((x : A) → g x ≡ true → f x ≡ false) → found g (without f xs) ≡ found g xs
  unfolding found without
  found-without f g [] h = refl
  found-without f g (x ∷ xs) h = go (f x) refl (g x) refl (found-without f g xs h)
    where
      go : (b : Bool) → f x ≡ b → (c : Bool) → g x ≡ c → found g (without f xs) ≡ found g xs
          → found g (cond b xs (x ∷ without f xs)) ≡ cond c (some x) (found g xs)
      go true s true t ih = absurd (never_both s (h x t))
      go true s false t ih = refl
      go false s true t ih = rw t
      go false s false t ih = rw t ih

  pub picked-without : (f g : A → Bool) (xs : List A) → ((x : A) → Memᴰ x xs → g x ≡ true → f x ≡ false) → picked g (without f xs) ≡ picked g xs
  unfolding picked without
  picked-without f g [] h = refl
  picked-without f g (x ∷ xs) h =
      go (f x) refl (g x) refl (h x (Memᴰ.head refl)) (picked-without f g xs (λ y m. h y (Memᴰ.tail m)))
    where
      go : (b : Bool) → f x ≡ b → (c : Bool) → g x ≡ c → (g x ≡ true → f x ≡ false) → picked g (without f xs) ≡ picked g xs
          → picked g (cond b xs (x ∷ without f xs)) ≡ cond c (x ∷ picked g xs) (picked g xs)
      go true s true t apart ih = absurd (never_both s (apart t))
      go true s false t apart ih = refl
      go false s true t apart ih = rw (t, ih)
      go false s false t apart ih = rw t ih

  -- and where at most one passes, one out of the list is one out of the picked ones
  lone_out : (f g : A → Bool) (xs : List A) → count f xs ≡ 0 → without f (picked g xs) ≡ picked g xs
  unfolding count picked without
  lone_out f g [] e = refl
  lone_out f g (x ∷ xs) e = go (f x) refl (g x) (lone_out f g xs (omega arith))
    where
      go : (b : Bool) → f x ≡ b → (c : Bool) → without f (picked g xs) ≡ picked g xs
          → without f (cond c (x ∷ picked g xs) (picked g xs)) ≡ cond c (x ∷ picked g xs) (picked g xs)
      go true s c ih = absurd (omega (arith, ap one s, e))
      go false s true ih = rw (s, ih)
      go false s false ih = ih

  pub picked_out : (f g : A → Bool) (xs : List A) → count f xs ≤ 1 → picked g (without f xs) ≡ without f (picked g xs)
  unfolding count picked without
  picked_out f g [] h = refl
  picked_out f g (x ∷ xs) h = go (f x) refl (g x) refl (picked_out f g xs (omega arith))
    where
      go : (b : Bool) → f x ≡ b → (c : Bool) → g x ≡ c → picked g (without f xs) ≡ without f (picked g xs)
          → picked g (cond b xs (x ∷ without f xs)) ≡ without f (cond c (x ∷ picked g xs) (picked g xs))
      go true s true t ih = sym (rw s)
      go true s false t ih = sym (lone_out f g xs (omega (arith, ap one s, h)))
      go false s true t ih = rw (t, s, ih)
      go false s false t ih = rw t ih

  -- One entry changed

  pub changed_none : (h : A → A) (f : A → Bool) (xs : List A) → found f xs ≡ none → changed h f xs ≡ xs
  unfolding found changed
  changed_none h f [] e = refl
  changed_none h f (x ∷ xs) e = go (f x) e (changed_none h f xs)
    where
      go : (b : Bool) → cond b (some x) (found f xs) ≡ none → (found f xs ≡ none → changed h f xs ≡ xs) → cond b (h x ∷ xs) (x ∷ changed h f xs) ≡ x ∷ xs
      go true g ih = let z : ◌≡◌ {A = ℕ} 0 1 = cc in absurd (omega arith)
      go false g ih = ap (λ (l : List A). x ∷ l) (ih g)

  -- each entry is one of before, or the changed one
  pub in_changed : (h : A → A) (f : A → Bool) (xs : List A) (y : A)
      → Memᴰ y (changed h f xs) → Memᴰ y xs ⊎ ((x : A) × (found f xs ≡ some x) × (y ≡ h x))
  unfolding found changed
  in_changed h f [] y m = inl m
  in_changed h f (x ∷ xs) y m = go (f x) m (in_changed h f xs y)
    where
      go : (b : Bool) → Memᴰ y (cond b (h x ∷ xs) (x ∷ changed h f xs))
          → (Memᴰ y (changed h f xs) → Memᴰ y xs ⊎ ((z : A) × (found f xs ≡ some z) × (y ≡ h z)))
          → Memᴰ y (x ∷ xs) ⊎ ((z : A) × (cond b (some x) (found f xs) ≡ some z) × (y ≡ h z))
      go true i ih = ⊎_elim (λ e. inr (x, refl, e)) (λ j. inl (Memᴰ.tail j)) (Memᴰ.cases_cons i)
      go false i ih =
          ⊎_elim
          (λ e. inl (Memᴰ.head e))
          (λ j. ⊎_elim (λ k. inl (Memᴰ.tail k)) (λ w. inr w) (ih j))
          (Memᴰ.cases_cons i)

  -- and the changed one stands there
  pub changed_there : (h : A → A) (f : A → Bool) (xs : List A) (y : A) → found f xs ≡ some y → Memᴰ (h y) (changed h f xs)
  unfolding found changed
  changed_there h f [] y e = let z : ◌≡◌ {A = ℕ} 0 1 = cc in absurd (omega arith)
  changed_there h f (x ∷ xs) y e = go (f x) e (changed_there h f xs y)
    where
      go : (b : Bool) → cond b (some x) (found f xs) ≡ some y → (found f xs ≡ some y → Memᴰ (h y) (changed h f xs))
          → Memᴰ (h y) (cond b (h x ∷ xs) (x ∷ changed h f xs))
      go true q ih = let same : y ≡ x = cc in Memᴰ.head (ap h same)
      go false q ih = Memᴰ.tail (ih q)

  pub count-changed : (h : A → A) (f g : A → Bool) (xs : List A) (y : A)
      → found f xs ≡ some y → count g (changed h f xs) + one (g y) ≡ count g xs + one (g (h y))
  unfolding found changed count
  count-changed h f g [] y e = let z : ◌≡◌ {A = ℕ} 0 1 = cc in absurd (omega arith)
  count-changed h f g (x ∷ xs) y e = go (f x) e (count-changed h f g xs y)
    where
      go : (b : Bool) → cond b (some x) (found f xs) ≡ some y → (found f xs ≡ some y → count g (changed h f xs) + one (g y) ≡ count g xs + one (g (h y)))
          → count g (cond b (h x ∷ xs) (x ∷ changed h f xs)) + one (g y) ≡ one (g x) + count g xs + one (g (h y))
      go true i ih = let same : x ≡ y = cc in omega (arith, ap (λ (z : A). one (g z)) same, ap (λ (z : A). one (g (h z))) same)
      go false i ih = omega (arith, ih i)

  pub length-changed : (h : A → A) (f : A → Bool) (xs : List A) → length (changed h f xs) ≡ length xs
  unfolding changed
  length-changed h f [] = refl
  length-changed h f (x ∷ xs) = go (f x) (length-changed h f xs)
    where
      go : (b : Bool) → length (changed h f xs) ≡ length xs → length (cond b (h x ∷ xs) (x ∷ changed h f xs)) ≡ suc (length xs)
      go true ih = refl
      go false ih = ap suc ih

  -- what a test finds that does not see the change is found as before, or as it was changed
  pub found-changed : (h : A → A) (f g : A → Bool) (xs : List A) (y : A) → ((x : A) → g (h x) ≡ g x)
      → found g xs ≡ some y → (found g (changed h f xs) ≡ some y) ⊎ (found g (changed h f xs) ≡ some (h y))
  unfolding found changed
  found-changed h f g [] y blind e = inl e
  found-changed h f g (x ∷ xs) y blind e = go (f x) (g x) refl e (found-changed h f g xs y blind)
    where
      go : (b c : Bool) → g x ≡ c → cond c (some x) (found g xs) ≡ some y
          → (found g xs ≡ some y → (found g (changed h f xs) ≡ some y) ⊎ (found g (changed h f xs) ≡ some (h y)))
          → (found g (cond b (h x ∷ xs) (x ∷ changed h f xs)) ≡ some y) ⊎ (found g (cond b (h x ∷ xs) (x ∷ changed h f xs)) ≡ some (h y))
      go true true t i ih = let same : x ≡ y = cc in inr (rw (blind x ∙ t, same))
      go true false t i ih = inl (rw (blind x ∙ t) i)
      go false true t i ih = inl (rw t i)
      go false false t i ih = rw t (ih i)

  -- where nothing is found, nothing is found after such a change
  pub none_changed : (h : A → A) (f g : A → Bool) (xs : List A) → ((x : A) → g (h x) ≡ g x) → found g xs ≡ none → found g (changed h f xs) ≡ none
  unfolding found changed
  none_changed h f g [] blind e = refl
  none_changed h f g (x ∷ xs) blind e = go (f x) (g x) refl e (none_changed h f g xs blind)
    where
      go : (b c : Bool) → g x ≡ c → cond c (some x) (found g xs) ≡ none → (found g xs ≡ none → found g (changed h f xs) ≡ none)
          → found g (cond b (h x ∷ xs) (x ∷ changed h f xs)) ≡ none
      go true true t i ih = let z : ◌≡◌ {A = ℕ} 0 1 = cc in absurd (omega arith)
      go true false t i ih = rw (blind x ∙ t) i
      go false true t i ih = let z : ◌≡◌ {A = ℕ} 0 1 = cc in absurd (omega arith)
      go false false t i ih = rw t (ih i)

  -- picking those that pass, where the changed one, the first of them that passes f as well, passes no more
  pub picked-changed : (h : A → A) (f g : A → Bool) (xs : List A) → ((x : A) → g (h x) ≡ false)
      → picked g (changed h (λ x. g x && f x) xs) ≡ without f (picked g xs)
  unfolding picked changed without
  picked-changed h f g [] gone = refl
  picked-changed h f g (x ∷ xs) gone = go (g x) refl (f x) refl (picked-changed h f g xs gone)
    where
      go : (b : Bool) → g x ≡ b → (c : Bool) → f x ≡ c → picked g (changed h (λ z. g z && f z) xs) ≡ without f (picked g xs)
          → picked g (cond (b && c) (h x ∷ xs) (x ∷ changed h (λ z. g z && f z) xs)) ≡ without f (cond b (x ∷ picked g xs) (picked g xs))
      go true s true t ih = rw (gone x, t)
      go true s false t ih = rw (s, t, ih)
      go false s c t ih = rw s ih

  -- and picking by a test that passes neither what is changed nor what becomes of it
  pub picked_apart : (h : A → A) (f g : A → Bool) (xs : List A) → ((x : A) → g (h x) ≡ false) → ((x : A) → f x ≡ true → g x ≡ false)
      → picked g (changed h f xs) ≡ picked g xs
  unfolding picked changed
  picked_apart h f g [] gone apart = refl
  picked_apart h f g (x ∷ xs) gone apart = go (f x) refl (picked_apart h f g xs gone apart)
    where
      go : (b : Bool) → f x ≡ b → picked g (changed h f xs) ≡ picked g xs
          → picked g (cond b (h x ∷ xs) (x ∷ changed h f xs)) ≡ cond (g x) (x ∷ picked g xs) (picked g xs)
      go true t ih = rw (gone x, apart x t)
      go false t ih = rw ih

  -- what is found at the end of a list, where nothing was found before
  pub found-last : (f : A → Bool) (xs : List A) (y : A) → found f xs ≡ none → found f (xs ++ (y ∷ [])) ≡ cond (f y) (some y) none
  unfolding found
  found-last f [] y e = refl
  found-last f (x ∷ xs) y e = go (f x) e (found-last f xs y)
    where
      go : (b : Bool) → cond b (some x) (found f xs) ≡ none → (found f xs ≡ none → found f (xs ++ (y ∷ [])) ≡ cond (f y) (some y) none)
          → cond b (some x) (found f (xs ++ (y ∷ []))) ≡ cond (f y) (some y) none
      go true g ih = let z : ◌≡◌ {A = ℕ} 0 1 = cc in absurd (omega arith)
      go false g ih = ih g

  -- Any and all

  -- any entry passes where one is counted
  pub any_counted : (f : A → Bool) (xs : List A) → any f xs ≡ ltb 0 (count f xs)
  unfolding any count
  any_counted f [] = refl
  any_counted f (x ∷ xs) = go (f x) (any_counted f xs)
    where
      go : (b : Bool) → any f xs ≡ ltb 0 (count f xs) → (b || any f xs) ≡ ltb 0 (one b + count f xs)
      go true ih = sym (lt-ltb 0 (1 + count f xs) (omega arith))
      go false ih = let same : count f xs ≡ 0 + count f xs = omega arith in ih ∙ ap (ltb 0) same

  pub any_some : (f : A → Bool) (xs : List A) → any f xs ≡ true → (y : A) × Memᴰ y xs × (f y ≡ true)
  unfolding any
  any_some f [] e = absurd (never_both {b = false} e refl)
  any_some f (x ∷ xs) e = go (f x) refl e (any_some f xs)
    where
      go : (b : Bool) → f x ≡ b → (b || any f xs) ≡ true → (any f xs ≡ true → (y : A) × Memᴰ y xs × (f y ≡ true))
          → (y : A) × Memᴰ y (x ∷ xs) × (f y ≡ true)
      go true t i ih = (x, Memᴰ.head refl, t)
      go false t i ih = let w = ih i in (w.0, Memᴰ.tail w.1, w.2)

  pub any_none : (f : A → Bool) (xs : List A) → any f xs ≡ false → (y : A) → Memᴰ y xs → f y ≡ false
  unfolding any
  any_none f [] e y m = absurd (Memᴰ.not-nil m)
  any_none f (x ∷ xs) e y m = go (f x) refl e (any_none f xs)
    where
      go : (b : Bool) → f x ≡ b → (b || any f xs) ≡ false → (any f xs ≡ false → (z : A) → Memᴰ z xs → f z ≡ false) → f y ≡ false
      go true t i ih = absurd (never_both {b = true} refl i)
      go false t i ih = ⊎_elim (λ (same : y ≡ x). ap f same ∙ t) (λ j. ih i y j) (Memᴰ.cases_cons m)

  pub all_at : (f : A → Bool) (xs : List A) → all f xs ≡ true → (y : A) → Memᴰ y xs → f y ≡ true
  unfolding all
  all_at f [] e y m = absurd (Memᴰ.not-nil m)
  all_at f (x ∷ xs) e y m =
      ⊎_elim
      (λ (same : y ≡ x). ap f same ∙ and_left (f x) (all f xs) e)
      (λ i. all_at f xs (and_right (f x) (all f xs) e) y i)
      (Memᴰ.cases_cons m)

  pub all-each : (f : A → Bool) (xs : List A) → ((y : A) → Memᴰ y xs → f y ≡ true) → all f xs ≡ true
  unfolding all
  all-each f [] h = refl
  all-each f (x ∷ xs) h = and_both (f x) (all f xs) (h x (Memᴰ.head refl)) (all-each f xs (λ y m. h y (Memᴰ.tail m)))

  -- those picked are the entries that pass, each as often as it stands in the list
  pub picked_all : (f : A → Bool) (xs : List A) (y : A) → Memᴰ y (picked f xs) → Memᴰ y xs × (f y ≡ true)
  unfolding picked
  picked_all f [] y m = absurd (Memᴰ.not-nil m)
  picked_all f (x ∷ xs) y m = go (f x) refl m (picked_all f xs y)
    where
      go : (b : Bool) → f x ≡ b → Memᴰ y (cond b (x ∷ picked f xs) (picked f xs))
          → (Memᴰ y (picked f xs) → Memᴰ y xs × (f y ≡ true)) → Memᴰ y (x ∷ xs) × (f y ≡ true)
      go true t i ih =
          ⊎_elim
          (λ (same : y ≡ x). (Memᴰ.head same, ap f same ∙ t))
          (λ j. let w = ih j in (Memᴰ.tail w.0, w.1))
          (Memᴰ.cases_cons i)
      go false t i ih = let w = ih i in (Memᴰ.tail w.0, w.1)

  pub all-picked : (f : A → Bool) (xs : List A) (y : A) → Memᴰ y xs → f y ≡ true → Memᴰ y (picked f xs)
  unfolding picked
  all-picked f [] y m t = m
  all-picked f (x ∷ xs) y m t = go (f x) refl (Memᴰ.cases_cons m) (λ i. all-picked f xs y i t)
    where
      go : (b : Bool) → f x ≡ b → (y ≡ x) ⊎ Memᴰ y xs → (Memᴰ y xs → Memᴰ y (picked f xs))
          → Memᴰ y (cond b (x ∷ picked f xs) (picked f xs))
      go true e (inl same) ih = Memᴰ.head same
      go true e (inr i) ih = Memᴰ.tail (ih i)
      go false e (inl same) ih = absurd (never_both t (ap f same ∙ e))
      go false e (inr i) ih = ih i

  pub count-picked : (f g : A → Bool) (xs : List A) → count g (picked f xs) ≡ count (λ x. f x && g x) xs
  unfolding picked count
  count-picked f g [] = refl
  count-picked f g (x ∷ xs) = go (f x) (count-picked f g xs)
    where
      go : (b : Bool) → count g (picked f xs) ≡ count (λ z. f z && g z) xs
          → count g (cond b (x ∷ picked f xs) (picked f xs)) ≡ one (b && g x) + count (λ z. f z && g z) xs
      go true ih = omega (arith, ih)
      go false ih = omega (arith, ih)
