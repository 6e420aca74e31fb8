-- Bindings: an object for each parameter. Which lists are on the list of all bindings, in what order they stand there, and which of an
-- increasing list is the first that passes a test.
use Prim.Native.Nat.{ℕ, zero, suc, ◌≤◌, ◌<◌, zero-le}
use native.Mathlib.Omega.{arith}
use mathlib.Core.Path.{◌≡◌, refl, sym, ap, ◌∙◌, subst, subst₂}
use mathlib.Core.Bool.{Bool, true, false}
use mathlib.Core.Logic.{⊎_elim}
use mathlib.Core.Option.{none, some, some-injective}
use mathlib.Core.List.{List, [], ◌∷◌, map}
use mathlib.Core.List.Memᴰ
use mathlib.Core.List.{Memᴰ}
use lib.Dec.{ltb}
use lib.ListN.{length, get_or, take}
use lib.Seq.{get_or-take, length-take-le, ext_get_or}
use borrow.Author.Tests.{ltb-true, lt-ltb}
use Rattle.laws.specs.Lists.{all, keep, up_to, before}
use Rattle.laws.proofs.Tests.{never, and_left, and_right, and_intro, cond_true, cond_false, by_test}
use Rattle.laws.proofs.Lists.{all_at, mem_get_d, keep_at, keep_intro, flat_map_at, flat_map_intro, up_to_at, up_to_intro}
use Rattle.laws.proofs.Mapped.{keep_none}
use Rattle.laws.proofs.Orders.{Earlier, compared, before_first, before_rest, before_says, says_before}
use Rattle.laws.proofs.Increasing.{Strict, Increasing, before_strict, increasing_keep, increasing_map, increasing_flat_map, increasing_up_to}
use Rattle.model.specs.Open.{first, bindings}

-- A full binding: n objects, each of them below m.
pub record FullBinding (m n : ℕ) (objects : List ℕ) : Type 0 where
  pub one_for_each : length objects ≡ n
  pub objects_known : all (λ o. ltb o m) objects ≡ true

-- the object of each parameter is known
pub full_at : {m n : ℕ} {objects : List ℕ} → FullBinding m n objects → (i : ℕ) → i < n → get_or objects i 0 < m
full_at {m} {n} {objects} full i h =
    ltb-true (get_or objects i 0) m
    (all_at _ objects full.objects_known (get_or objects i 0) (mem_get_d objects i 0 (subst (λ (k : ℕ). i < k) (sym full.one_for_each) h)))

-- one object more in front
full_cons : {m n o : ℕ} {objects : List ℕ} → o < m → FullBinding m n objects → FullBinding m (suc n) (o ∷ objects)
unfolding all
full_cons {m} {n} {o} {objects} h full = record {
  one_for_each = ap suc full.one_for_each;
  objects_known = and_intro (ltb o m) (all (λ o. ltb o m) objects) (lt-ltb o m h) full.objects_known;
}

-- a full binding without its first object
full_first : {m n o : ℕ} {objects : List ℕ} → FullBinding m (suc n) (o ∷ objects) → o < m
unfolding all
full_first {m} {n} {o} {objects} full = ltb-true o m (and_left (ltb o m) (all (λ o. ltb o m) objects) full.objects_known)

full_rest : {m n o : ℕ} {objects : List ℕ} → FullBinding m (suc n) (o ∷ objects) → FullBinding m n objects
unfolding all
full_rest {m} {n} {o} {objects} full = record {
  one_for_each = let e = full.one_for_each in omega arith;
  objects_known = and_right (ltb o m) (all (λ o. ltb o m) objects) full.objects_known;
}

-- a list of objects that are all known, by places
pub full_intro : (m : ℕ) (objects : List ℕ) → ((i : ℕ) → i < length objects → get_or objects i 0 < m) → FullBinding m (length objects) objects
unfolding all
full_intro m [] h = record { one_for_each = refl; objects_known = refl }
full_intro m (o ∷ objects) h = full_cons (h 0 (omega arith)) (full_intro m objects (λ i k. h (suc i) (omega arith)))

-- the full bindings are those on the list of all bindings
pub bindings_full : (m n : ℕ) (objects : List ℕ) → Memᴰ objects (bindings m n) → FullBinding m n objects
unfolding bindings all
bindings_full m zero objects k =
    subst (FullBinding m 0) (sym (Memᴰ.eq_of_singleton k)) (record { one_for_each = refl; objects_known = refl })
bindings_full m (suc n) objects k =
    let (o, known, made) = flat_map_at (λ o. map (λ rest. o ∷ rest) (bindings m n)) (up_to m) objects k in
    let (rest, there, is) = Memᴰ.of_map (λ rest. o ∷ rest) (bindings m n) made in
    subst (FullBinding m (suc n)) is (full_cons (up_to_at m o known) (bindings_full m n rest there))

pub full_bindings : (m n : ℕ) (objects : List ℕ) → FullBinding m n objects → Memᴰ objects (bindings m n)
unfolding bindings
full_bindings m zero [] full = Memᴰ.head refl
full_bindings m zero (o ∷ objects) full = absurd (let e = full.one_for_each in omega arith)
full_bindings m (suc n) [] full = absurd (let e = full.one_for_each in omega arith)
full_bindings m (suc n) (o ∷ objects) full =
    flat_map_intro (λ o. map (λ rest. o ∷ rest) (bindings m n)) (up_to m) o (o ∷ objects) (up_to_intro m o (full_first full))
    (Memᴰ.map (λ rest. o ∷ rest) (full_bindings m n objects (full_rest full)))

-- they stand there in their order
pub bindings_increase : (m n : ℕ) → Increasing before (bindings m n)
unfolding bindings
bindings_increase m zero = (λ y k. absurd (Memᴰ.not-nil k), tt)
bindings_increase m (suc n) =
    increasing_flat_map ltb before (λ o. map (λ rest. o ∷ rest) (bindings m n))
    (λ o p h u v k j.
    let (x, there, is) = Memᴰ.of_map (λ rest. o ∷ rest) (bindings m n) k in
    let (y, too, was) = Memᴰ.of_map (λ rest. p ∷ rest) (bindings m n) j in
    subst₂ (λ (a b : List ℕ). before a b ≡ true) is was (before_first o p x y (ltb-true o p h)))
    (up_to m)
    (λ o k. increasing_map before before (λ rest. o ∷ rest) (λ x y e. before_rest o o x y refl e) (bindings m n) (bindings_increase m n))
    (increasing_up_to m)

-- The first element of a list that passes a test, in an order: it passes, and those before it fail.
pub record First {A : Type 0} (less : A → A → Bool) (test : A → Bool) (xs : List A) (x : A) : Type 0 where
  pub there : Memᴰ x xs
  pub passes : test x ≡ true
  pub earlier_fail : (y : A) → Memᴰ y xs → less y x ≡ true → test y ≡ false

module _ {A : Type 0} (test : A → Bool) where
  -- where every element fails there is none
  pub first_none : (xs : List A) → ((x : A) → Memᴰ x xs → test x ≡ false) → first (keep test xs) ≡ none
  unfolding first
  first_none xs fails = ap first (keep_none test xs fails)

  -- and the other way round
  pub first_none_says : (xs : List A) → first (keep test xs) ≡ none → (x : A) → Memᴰ x xs → test x ≡ false
  unfolding first
  first_none_says xs e x m = by_test (test x) (λ p. go (keep test xs) e (keep_intro test xs x m p)) (λ q. q)
    where
      go : (ks : List A) → first ks ≡ none → Memᴰ x ks → test x ≡ false
      go [] h k = absurd (Memᴰ.not-nil k)
      go (y ∷ ys) h k = cc

module _ {A : Type 0} (less : A → A → Bool) (test : A → Bool) where
  -- an element of an increasing list that passes, where all before it fail, is the first one
  pub first_found : (xs : List A) → Increasing less xs → (x : A) → First less test xs x → first (keep test xs) ≡ some x
  unfolding first keep
  first_found [] increasing x f = absurd (Memᴰ.not-nil f.there)
  first_found (y ∷ ys) increasing x f =
      ⊎_elim
      (λ p. ap first (cond_true (test y) _ _ (sym (ap test p) ∙ f.passes)) ∙ ap some (sym p))
      (λ k.
      ap first (cond_false (test y) _ _ (f.earlier_fail y (Memᴰ.head refl) (increasing.0 x k)))
      ∙ first_found ys increasing.1 x
      (record { there = k; passes = f.passes; earlier_fail = λ z m. f.earlier_fail z (Memᴰ.tail m) }))
      (Memᴰ.cases_cons f.there)

  -- and the other way round
  pub first_says : Strict less → (xs : List A) → Increasing less xs → (x : A) → first (keep test xs) ≡ some x → First less test xs x
  unfolding first
  first_says strict xs increasing x e = go (keep test xs) refl e
    where
      go : (ks : List A) → keep test xs ≡ ks → first ks ≡ some x → First less test xs x
      go [] is h = let z : ◌≡◌ {A = ℕ} 0 1 = cc in absurd (omega arith)
      go (k ∷ ks) is h =
          let same : k ≡ x = some-injective k x h in
          let kept = keep_at test xs x (subst (λ (l : List A). Memᴰ x l) (sym is) (Memᴰ.head (sym same))) in
          let later = subst (Increasing less) is (increasing_keep less test xs increasing) in
          record {
            there = kept.0;
            passes = kept.1;
            earlier_fail = λ y m earlier.
                by_test (test y)
                (λ p.
                ⊎_elim
                (λ q. never (sym (subst (λ (z : A). less z x ≡ true) (q ∙ same) earlier) ∙ strict.irreflexive x))
                (λ j.
                never (sym (strict.transitive x y x (subst (λ (z : A). less z y ≡ true) same (later.0 y j)) earlier)
                ∙ strict.irreflexive x))
                (Memᴰ.cases_cons (subst (λ (l : List A). Memᴰ y l) is (keep_intro test xs y m p))))
                (λ q. q);
          }

-- the same objects at the first d parameters
abbrev pub AgreeBelow : ℕ → List ℕ → List ℕ → Type 0
AgreeBelow d xs ys = (j : ℕ) → j < d → get_or ys j 0 ≡ get_or xs j 0

-- A binding that stands after another by parameter i: the first at which the two differ.
pub record AfterAt (given : List ℕ) (i : ℕ) (objects : List ℕ) : Type 0 where
  pub agrees : AgreeBelow i given objects
  pub larger : get_or given i 0 < get_or objects i 0

module _ {m n : ℕ} {given objects : List ℕ} (full_given : FullBinding m n given) (full : FullBinding m n objects) where
  same_length : length given ≡ length objects
  same_length = full_given.one_for_each ∙ sym full.one_for_each

  -- of two full bindings the second stands after the first exactly if it does so by some parameter
  pub after_at : before given objects ≡ true → (i : ℕ) × (i < n) × AfterAt given i objects
  unfolding Earlier
  after_at e =
      let (i, inside, fronts, larger) = before_says given objects same_length e in (
        i,
        subst (λ (k : ℕ). i < k) full_given.one_for_each inside,
        record {
          agrees = λ j h.
              sym (get_or-take i objects j 0 h) ∙ ap (λ (l : List ℕ). get_or l j 0) (sym fronts) ∙ get_or-take i given j 0 h;
          larger = larger;
        },
      )

  pub at_after : (i : ℕ) → i < n → AfterAt given i objects → before given objects ≡ true
  unfolding Earlier
  at_after i h after =
      let inside : i < length given = subst (λ (k : ℕ). i < k) (sym full_given.one_for_each) h in
      let too : i < length objects = subst (λ (k : ℕ). i < k) (sym full.one_for_each) h in
      let long = length-take-le i given (omega arith) in
      let long₁ = length-take-le i objects (omega arith) in
      says_before given objects same_length (
        i,
        inside,
        ext_get_or 0 (take i given) (take i objects) (long ∙ sym long₁)
            (λ j k. fronts j (subst (λ (l : ℕ). j < l) long k)),
        after.larger,
      )
    where
      fronts : (j : ℕ) → j < i → get_or (take i given) j 0 ≡ get_or (take i objects) j 0
      fronts j k = get_or-take i given j 0 k ∙ sym (after.agrees j k) ∙ sym (get_or-take i objects j 0 k)

-- The first full binding that passes a test, of those among which it is looked for.
pub record FirstBinding (m n : ℕ) (among test : List ℕ → Bool) (x : List ℕ) : Type 0 where
  pub full : FullBinding m n x
  pub looked_at : among x ≡ true
  pub passes : test x ≡ true
  pub earlier_fail : (y : List ℕ) → FullBinding m n y → among y ≡ true → before y x ≡ true → test y ≡ false

-- The search for the next binding after a given one goes parameter by parameter, from the last one down: at parameter d it looks at those
-- that keep the given objects below d and have a larger one at d.

-- no full binding passes that stands after the given one by parameter d
abbrev pub NoneAt : ℕ → ℕ → (List ℕ → Bool) → List ℕ → ℕ → Type 0
NoneAt m n test given d = (y : List ℕ) → FullBinding m n y → AfterAt given d y → test y ≡ false

-- nor by a later parameter
abbrev pub NoneFrom : ℕ → ℕ → (List ℕ → Bool) → List ℕ → ℕ → Type 0
NoneFrom m n test given d = (i : ℕ) → d ≤ i → i < n → NoneAt m n test given i

module _ {m n : ℕ} {given : List ℕ} (full_given : FullBinding m n given) (test : List ℕ → Bool) where
  -- past the last parameter there is nothing to look at
  pub none_from_start : NoneFrom m n test given n
  none_from_start i h k y full after = absurd (omega arith)

  -- one parameter further down
  pub none_from_next : (d : ℕ) → NoneFrom m n test given (suc d) → NoneAt m n test given d → NoneFrom m n test given d
  none_from_next d later here i h k =
      ⊎_elim (λ less. later i less k)
      (λ r. ⊎_elim (λ same. subst (NoneAt m n test given) same here) (λ more. absurd (omega arith)) r)
      (compared d i)

  -- down to the first parameter: no binding after the given one passes
  pub none_from_all : NoneFrom m n test given 0 → (y : List ℕ) → FullBinding m n y → before given y ≡ true → test y ≡ false
  none_from_all fails y full e =
      let (i, h, after) = after_at full_given full e in
      fails i zero-le h y full after

  -- the first binding that passes by parameter d, where none passes by a later one, is the first that passes after the given one
  pub found_at : (d : ℕ) → d < n → NoneFrom m n test given (suc d) → (x : List ℕ) → FullBinding m n x → AfterAt given d x → test x ≡ true
      → ((y : List ℕ) → FullBinding m n y → AfterAt given d y → before y x ≡ true → test y ≡ false)
      → FirstBinding m n (before given) test x
  found_at d h later x full_x after_x passes here = record {
    full = full_x;
    looked_at = at_after full_given full_x d h after_x;
    passes = passes;
    earlier_fail = λ y full e earlier.
        let (i, k, after) = after_at full_given full e in
        ⊎_elim
        (λ less. never (sym (before_strict.transitive y x y earlier (at_after full_x full i k (past y i less after))) ∙ before_strict.irreflexive y))
        (λ r. ⊎_elim (λ same. here y full (subst (λ (p : ℕ). AfterAt given p y) same after) earlier) (λ more. later i more k y full after) r)
        (compared i d);
  }
    where
      -- one after the given one by an earlier parameter stands after x
      past : (y : List ℕ) (i : ℕ) → i < d → AfterAt given i y → AfterAt x i y
      past y i less after = record {
        agrees = λ j l. after.agrees j l ∙ sym (after_x.agrees j (omega arith));
        larger = subst (λ (o : ℕ). o < get_or y i 0) (sym (after_x.agrees i less)) after.larger;
      }
