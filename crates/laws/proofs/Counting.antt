-- Counting: how many elements of a list pass a test, where no element stands twice; and bags that are made by counting.
use Prim.Native.Nat.{ℕ, suc, ◌+◌, ◌-◌, min, ◌≤◌, zero-le, suc-le-suc}
use native.Mathlib.Nat.{le_antisymm, le_of_suc-le-suc}
use native.Mathlib.Omega.{arith}
use mathlib.Core.Path.{◌≡◌, refl, sym, ap, ◌∙◌, subst}
use mathlib.Core.Bool.{Bool, true, false, cond, not, ◌&&◌}
use mathlib.Core.Logic.{◌⊎◌, inl, inr, ⊎_elim}
use mathlib.Core.List.Memᴰ
use mathlib.Core.List.{List, [], ◌∷◌, ◌++◌, map, Memᴰ}
use lib.Dec.{leb}
use lib.ListN.{length}
use borrow.Author.Tests.{le-leb}
use Rattle.laws.specs.Lists.{keep, count}
use Rattle.laws.specs.Bags.{plus, less, meet, contains}
use Rattle.laws.proofs.Tests.{never, and_intro, by_test, not-true, to_not_true}
use Rattle.laws.proofs.Lists.{keep_at, keep_intro, length_keep, count_append}

module _ {A : Type 0} where
  -- no more elements pass than there are
  pub count_most : (f : A → Bool) (xs : List A) → count f xs ≤ length xs
  unfolding count
  count_most f [] = zero-le
  count_most f (x ∷ xs) = go (f x) (count_most f xs)
    where
      go : (b : Bool) → count f xs ≤ length xs → cond b (suc (count f xs)) (count f xs) ≤ suc (length xs)
      go true h = suc-le-suc h
      go false h = omega arith

  -- a test that passes whatever another passes counts as many or more; where it counts no more, the two agree
  pub count_grows : (f g : A → Bool) (xs : List A) → ((x : A) → Memᴰ x xs → f x ≡ true → g x ≡ true) → count f xs ≤ count g xs
  unfolding count
  count_grows f g [] h = zero-le
  count_grows f g (x ∷ xs) h = go (f x) (g x) (h x (Memᴰ.head refl)) (count_grows f g xs (λ y m. h y (Memᴰ.tail m)))
    where
      go : (b c : Bool) → (b ≡ true → c ≡ true) → count f xs ≤ count g xs
          → cond b (suc (count f xs)) (count f xs) ≤ cond c (suc (count g xs)) (count g xs)
      go true true k le = suc-le-suc le
      go true false k le = never (sym (k refl))
      go false true k le = omega arith
      go false false k le = le

  pub count_settles : (f g : A → Bool) (xs : List A) → ((x : A) → Memᴰ x xs → f x ≡ true → g x ≡ true)
      → count g xs ≤ count f xs → (x : A) → Memᴰ x xs → g x ≡ f x
  unfolding count
  count_settles f g [] h le x m = absurd (Memᴰ.not-nil m)
  count_settles f g (y ∷ ys) h le x m =
      go (f y) refl (g y) refl (h y (Memᴰ.head refl)) (count_grows f g ys later) (λ less k. count_settles f g ys later less x k) le
      (Memᴰ.cases_cons m)
    where
      later : (z : A) → Memᴰ z ys → f z ≡ true → g z ≡ true
      later z k = h z (Memᴰ.tail k)

      go : (b : Bool) → f y ≡ b → (c : Bool) → g y ≡ c → (b ≡ true → c ≡ true) → count f ys ≤ count g ys
          → (count g ys ≤ count f ys → Memᴰ x ys → g x ≡ f x)
          → cond c (suc (count g ys)) (count g ys) ≤ cond b (suc (count f ys)) (count f ys)
          → (x ≡ y) ⊎ Memᴰ x ys → g x ≡ f x
      go true p true q k grows rest most (inl e) = cc
      go true p true q k grows rest most (inr j) = rest (le_of_suc-le-suc most) j
      go true p false q k grows rest most e = never (sym (k refl))
      go false p true q k grows rest most e = absurd (omega arith)
      go false p false q k grows rest most (inl e) = cc
      go false p false q k grows rest most (inr j) = rest most j

  -- a test that always passes counts all
  pub count_all : (xs : List A) → count (λ x. true) xs ≡ length xs
  unfolding count
  count_all [] = refl
  count_all (x ∷ xs) = ap suc (count_all xs)

  -- no element stands twice
  abbrev pub NoRepeat : List A → Type 0
  NoRepeat [] = Unit {0}
  NoRepeat (x ∷ xs) = (Memᴰ x xs → ⊥) × NoRepeat xs

  -- the test picks the elements of the list
  pub record Picks (test : A → Bool) (xs : List A) : Type 0 where
    pub picked : (x : A) → test x ≡ true → Memᴰ x xs
    pub picks : (x : A) → Memᴰ x xs → test x ≡ true

  -- the rest of a list with one element taken out: every count is that of the element and the rest, every other element is in the rest
  pub record Rest (x : A) (xs : List A) : Type 0 where
    pub rest : List A
    pub counts : (f : A → Bool) → count f xs ≡ count f (x ∷ rest)
    pub members : (y : A) → Memᴰ y xs → (y ≡ x) ⊎ Memᴰ y rest

  -- two elements change places
  count_swap : (f : A → Bool) (x y : A) (zs : List A) → count f (x ∷ y ∷ zs) ≡ count f (y ∷ x ∷ zs)
  unfolding count
  count_swap f x y zs = go (f x) (f y)
    where
      go : (a b : Bool)
          → cond a (suc (cond b (suc (count f zs)) (count f zs))) (cond b (suc (count f zs)) (count f zs))
          ≡ cond b (suc (cond a (suc (count f zs)) (count f zs))) (cond a (suc (count f zs)) (count f zs))
      go true true = refl
      go true false = refl
      go false true = refl
      go false false = refl

  -- counts that agree on two rests agree with one element in front
  count_cons : (f : A → Bool) (x : A) (ys zs : List A) → count f ys ≡ count f zs → count f (x ∷ ys) ≡ count f (x ∷ zs)
  unfolding count
  count_cons f x ys zs e = ap (λ (n : ℕ). cond (f x) (suc n) n) e

  -- a member can be taken out
  taken_out_lem : (x : A) (ys : List A) → Memᴰ x ys → Rest x ys
  taken_out_lem x [] m = absurd (Memᴰ.not-nil m)
  taken_out_lem x (y ∷ ys) m = ⊎_elim first (λ k. later (taken_out_lem x ys k)) (Memᴰ.cases_cons m)
    where
      first : x ≡ y → Rest x (y ∷ ys)
      first p = record {
        rest = ys;
        counts = λ f. ap (λ (z : A). count f (z ∷ ys)) (sym p);
        members = λ z k. ⊎_elim (λ q. inl (q ∙ sym p)) (λ j. inr j) (Memᴰ.cases_cons k);
      }

      later : Rest x ys → Rest x (y ∷ ys)
      later r = record {
        rest = y ∷ r.rest;
        counts = λ f. count_cons f y ys (x ∷ r.rest) (r.counts f) ∙ count_swap f y x r.rest;
        members = λ z k. ⊎_elim (λ q. inr (Memᴰ.head q))
            (λ j. ⊎_elim (λ q. inl q) (λ i. inr (Memᴰ.tail i)) (r.members z j))
            (Memᴰ.cases_cons k);
      }

  -- a list that repeats nothing and whose elements are all in another counts no more than that one
  pub count_within : (f : A → Bool) (xs ys : List A) → NoRepeat xs → ((x : A) → Memᴰ x xs → Memᴰ x ys) → count f xs ≤ count f ys
  unfolding count
  count_within f [] ys apart inside = zero-le
  count_within f (x ∷ xs) ys apart inside =
      let r = taken_out_lem x ys (inside x (Memᴰ.head refl)) in
      go (f x) r.rest (r.counts f) (count_within f xs r.rest apart.1 (λ y m. others r y m))
    where
      others : (r : Rest x ys) (y : A) → Memᴰ y xs → Memᴰ y r.rest
      others r y m =
          ⊎_elim (λ p. absurd (apart.0 (subst (λ (z : A). Memᴰ z xs) p m))) (λ k. k) (r.members y (inside y (Memᴰ.tail m)))

      go : (b : Bool) (zs : List A) → count f ys ≡ cond b (suc (count f zs)) (count f zs) → count f xs ≤ count f zs
          → cond b (suc (count f xs)) (count f xs) ≤ count f ys
      go true zs e h = omega arith
      go false zs e h = omega arith

  -- two lists that repeat nothing and have the same elements count alike
  pub count_alike : (f : A → Bool) (xs ys : List A) → NoRepeat xs → NoRepeat ys
      → ((x : A) → Memᴰ x xs → Memᴰ x ys) → ((x : A) → Memᴰ x ys → Memᴰ x xs) → count f xs ≡ count f ys
  count_alike f xs ys p q into back = le_antisymm (count_within f xs ys p into) (count_within f ys xs q back)

  -- the first element counts 1 or 0
  count_front : (f : A → Bool) (x : A) (xs : List A) → count f (x ∷ xs) ≡ cond (f x) 1 0 + count f xs
  unfolding count
  count_front f x xs = go (f x)
    where
      go : (b : Bool) → cond b (suc (count f xs)) (count f xs) ≡ cond b 1 0 + count f xs
      go true = omega arith
      go false = omega arith

  -- the kept and the others make up the whole count
  pub count_split : (f g : A → Bool) (xs : List A) → count f xs ≡ count f (keep g xs) + count f (keep (λ x. not (g x)) xs)
  unfolding keep
  count_split f g [] = unfold count in refl
  count_split f g (x ∷ xs) = count_front f x xs ∙ go (g x) (count_split f g xs)
    where
      go : (b : Bool) → count f xs ≡ count f (keep g xs) + count f (keep (λ x. not (g x)) xs)
          → cond (f x) 1 0 + count f xs
          ≡ count f (cond b (x ∷ keep g xs) (keep g xs))
          + count f (cond (not b) (x ∷ keep (λ x. not (g x)) xs) (keep (λ x. not (g x)) xs))
      go true e = omega (arith, count_front f x (keep g xs))
      go false e = omega (arith, count_front f x (keep (λ x. not (g x)) xs))

  -- a count of what was kept
  pub count_keep : (test kept : A → Bool) (xs : List A) → count test (keep kept xs) ≡ count (λ x. kept x && test x) xs
  unfolding count keep
  count_keep test kept [] = refl
  count_keep test kept (x ∷ xs) = go (kept x) (count_keep test kept xs)
    where
      go : (b : Bool) → count test (keep kept xs) ≡ count (λ y. kept y && test y) xs
          → count test (cond b (x ∷ keep kept xs) (keep kept xs))
          ≡ cond (b && test x) (suc (count (λ y. kept y && test y) xs)) (count (λ y. kept y && test y) xs)
      go true e = ap (λ (n : ℕ). cond (test x) (suc n) n) e
      go false e = e

  -- those that pass a test and those that fail it make up the length
  pub count_both : (test : A → Bool) (xs : List A) → count test xs + count (λ x. not (test x)) xs ≡ length xs
  count_both test xs =
      omega (
        arith,
        count_split (λ x. true) test xs,
        count_all xs,
        count_all (keep test xs),
        count_all (keep (λ x. not (test x)) xs),
        length_keep test xs,
        length_keep (λ x. not (test x)) xs,
      )

  -- where nothing stands twice, nothing kept does
  pub no_repeat_keep : (test : A → Bool) (xs : List A) → NoRepeat xs → NoRepeat (keep test xs)
  unfolding keep
  no_repeat_keep test [] apart = tt
  no_repeat_keep test (x ∷ xs) apart = go (test x) (no_repeat_keep test xs apart.1)
    where
      go : (b : Bool) → NoRepeat (keep test xs) → NoRepeat (cond b (x ∷ keep test xs) (keep test xs))
      go true later = (λ m. apart.0 (keep_at test xs x m).0, later)
      go false later = later

  -- two lists that repeat nothing, with no element in common, together repeat nothing
  pub no_repeat_append : (xs ys : List A) → NoRepeat xs → NoRepeat ys → ((x : A) → Memᴰ x xs → Memᴰ x ys → ⊥) → NoRepeat (xs ++ ys)
  no_repeat_append [] ys p q differ = q
  no_repeat_append (x ∷ xs) ys p q differ = (
    λ m. ⊎_elim p.0 (differ x (Memᴰ.head refl)) (Memᴰ.append_cases xs m),
    no_repeat_append xs ys p.1 q (λ y m. differ y (Memᴰ.tail m)),
  )

  -- a new element at the end repeats nothing
  pub no_repeat_end : (xs : List A) (x : A) → NoRepeat xs → (Memᴰ x xs → ⊥) → NoRepeat (xs ++ (x ∷ []))
  no_repeat_end xs x p d =
      no_repeat_append xs (x ∷ []) p (λ k. Memᴰ.not-nil k, tt)
      (λ y m k. d (subst (λ (z : A). Memᴰ z xs) (Memᴰ.eq_of_singleton k) m))

  -- a list that repeats nothing is at most as long as one that has all its elements
  pub no_repeat_length : (xs ys : List A) → NoRepeat xs → ((x : A) → Memᴰ x xs → Memᴰ x ys) → length xs ≤ length ys
  no_repeat_length xs ys apart inside =
      let fewer = count_within (λ x. true) xs ys apart inside in
      let first = count_all xs in
      let second = count_all ys in
      omega arith

  -- elements taken out of a list: the count falls by theirs
  pub count_removed : (f gone : A → Bool) (xs out : List A) → Picks gone out → NoRepeat xs → NoRepeat out
      → ((x : A) → Memᴰ x out → Memᴰ x xs) → count f (keep (λ x. not (gone x)) xs) + count f out ≡ count f xs
  count_removed f gone xs out p apart once inside =
      let same =
      count_alike f (keep gone xs) out (no_repeat_keep gone xs apart) once
      (λ x m. p.picked x (keep_at gone xs x m).1)
      (λ x m. keep_intro gone xs x (inside x m) (p.picks x m)) in
      omega (arith, count_split f gone xs)

  -- elements put into a list: the count rises by theirs, less those that were there
  pub count_joined : (f there : A → Bool) (xs new all : List A) → Picks there xs → NoRepeat xs → NoRepeat new → NoRepeat all
      → ((x : A) → Memᴰ x all → Memᴰ x xs ⊎ Memᴰ x new)
      → ((x : A) → Memᴰ x xs → Memᴰ x all) → ((x : A) → Memᴰ x new → Memᴰ x all)
      → count f all + count f (keep there new) ≡ count f xs + count f new
  count_joined f there xs new all p once apart whole from old more =
      let different = no_repeat_append xs fresh once (no_repeat_keep (λ x. not (there x)) new apart) differ in
      let same = count_alike f all (xs ++ fresh) whole different into back in
      omega (arith, count_split f there new, count_append f xs fresh)
    where
      fresh : List A
      fresh = keep (λ x. not (there x)) new

      differ : (x : A) → Memᴰ x xs → Memᴰ x fresh → ⊥
      differ x m k = never (sym (p.picks x m) ∙ not-true (there x) (keep_at (λ x. not (there x)) new x k).1)

      into : (x : A) → Memᴰ x all → Memᴰ x (xs ++ fresh)
      into x m =
          by_test (there x) (λ e. Memᴰ.append_left fresh (p.picked x e))
          (λ e.
          ⊎_elim (λ k. Memᴰ.append_left fresh k)
          (λ k. Memᴰ.append_right xs (keep_intro (λ x. not (there x)) new x k (to_not_true (there x) e)))
          (from x m))

      back : (x : A) → Memᴰ x (xs ++ fresh) → Memᴰ x all
      back x m = ⊎_elim (old x) (λ k. more x (keep_at (λ x. not (there x)) new x k).0) (Memᴰ.append_cases xs m)

module _ {A B : Type 0} where
  -- a function that tells the elements apart keeps them apart
  pub no_repeat_map : (f : A → B) (xs : List A) → ((x y : A) → Memᴰ x xs → Memᴰ y xs → f x ≡ f y → x ≡ y)
      → NoRepeat xs → NoRepeat (map f xs)
  no_repeat_map f [] injective apart = tt
  no_repeat_map f (x ∷ xs) injective apart = (
    λ m. let r = Memᴰ.of_map f xs m in
        apart.0 (subst (λ (z : A). Memᴰ z xs) (injective r.0 x (Memᴰ.tail r.1) (Memᴰ.head refl) r.2) r.1),
    no_repeat_map f xs (λ y z m k. injective y z (Memᴰ.tail m) (Memᴰ.tail k)) apart.1,
  )

  -- counting what a function gives is counting by the test of what it gives
  pub count_map : (f : B → Bool) (g : A → B) (xs : List A) → count f (map g xs) ≡ count (λ x. f (g x)) xs
  unfolding count
  count_map f g [] = refl
  count_map f g (x ∷ xs) = ap (λ (n : ℕ). cond (f (g x)) (suc n) n) (count_map f g xs)

-- bags over one list of properties: what is done to them is done property by property
module _ {A : Type 0} where
  -- the sum
  pub plus_map : (f g : A → ℕ) (xs : List A) → plus (map f xs) (map g xs) ≡ map (λ x. f x + g x) xs
  unfolding plus
  plus_map f g [] = refl
  plus_map f g (x ∷ xs) = ap (λ (l : List ℕ). (f x + g x) ∷ l) (plus_map f g xs)

  -- the difference
  pub less_map : (f g : A → ℕ) (xs : List A) → less (map f xs) (map g xs) ≡ map (λ x. f x - g x) xs
  unfolding less
  less_map f g [] = refl
  less_map f g (x ∷ xs) = ap (λ (l : List ℕ). (f x - g x) ∷ l) (less_map f g xs)

  -- the intersection
  pub meet_map : (f g : A → ℕ) (xs : List A) → meet (map f xs) (map g xs) ≡ map (λ x. min (f x) (g x)) xs
  unfolding meet
  meet_map f g [] = refl
  meet_map f g (x ∷ xs) = ap (λ (l : List ℕ). min (f x) (g x) ∷ l) (meet_map f g xs)

  -- no count is smaller
  pub contains_map : (f g : A → ℕ) (xs : List A) → ((x : A) → Memᴰ x xs → g x ≤ f x) → contains (map f xs) (map g xs) ≡ true
  unfolding contains
  contains_map f g [] h = refl
  contains_map f g (x ∷ xs) h =
      and_intro (leb (g x) (f x)) (contains (map f xs) (map g xs)) (le-leb (g x) (f x) (h x (Memᴰ.head refl)))
      (contains_map f g xs (λ y m. h y (Memᴰ.tail m)))
