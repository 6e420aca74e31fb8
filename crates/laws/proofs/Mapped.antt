-- Mapped lists, and functions and tests that agree on a list.
use Prim.Native.Nat.{ℕ, zero, suc, ◌<◌}
use native.Mathlib.Nat.{le_of_suc-le-suc, not-suc-le-zero}
use mathlib.Core.Path.{◌≡◌, refl, sym, ap, ◌∙◌}
use mathlib.Core.Bool.{Bool, true, false, cond, ◌&&◌, ◌||◌}
use mathlib.Core.Logic.{◌⊎◌, inl, inr}
use mathlib.Core.List.Memᴰ
use mathlib.Core.List.{List, [], ◌∷◌, ◌++◌, map, flat_map, Memᴰ}
use lib.ListN.{length, get_or, take, replicate}
use Rattle.laws.specs.Lists.{any, all, keep}
use Rattle.laws.proofs.Tests.{never, and_intro, cond_true, cond_false}

module _ {A B : Type 0} where
  -- an element of a mapped list
  pub get_d_map : (f : A → B) (xs : List A) (i : ℕ) (d : A) (e : B) → i < length xs → get_or (map f xs) i e ≡ f (get_or xs i d)
  get_d_map f [] i d e h = absurd (not-suc-le-zero h)
  get_d_map f (x ∷ xs) zero d e h = refl
  get_d_map f (x ∷ xs) (suc i) d e h = get_d_map f xs i d e (le_of_suc-le-suc h)

  -- functions that agree on a list map it alike
  pub map_ext : (f g : A → B) (xs : List A) → ((x : A) → Memᴰ x xs → f x ≡ g x) → map f xs ≡ map g xs
  map_ext f g [] h = refl
  map_ext f g (x ∷ xs) h = λ i. h x (Memᴰ.head refl) i ∷ map_ext f g xs (λ y m. h y (Memᴰ.tail m)) i

  -- a test on a mapped list
  pub any_map : (test : B → Bool) (f : A → B) (xs : List A) → any test (map f xs) ≡ any (λ x. test (f x)) xs
  unfolding any
  any_map test f [] = refl
  any_map test f (x ∷ xs) = ap (λ (b : Bool). test (f x) || b) (any_map test f xs)

  -- the front of a mapped list
  pub take_map : (n : ℕ) (f : A → B) (xs : List A) → take n (map f xs) ≡ map f (take n xs)
  take_map zero f xs = refl
  take_map (suc n) f [] = refl
  take_map (suc n) f (x ∷ xs) = ap (λ (l : List B). f x ∷ l) (take_map n f xs)

  -- functions that agree on a list make the same lists of it
  pub flat_map_ext : (f g : A → List B) (xs : List A) → ((x : A) → Memᴰ x xs → f x ≡ g x) → flat_map f xs ≡ flat_map g xs
  unfolding flat_map
  flat_map_ext f g [] same = refl
  flat_map_ext f g (x ∷ xs) same = λ i. same x (Memᴰ.head refl) i ++ flat_map_ext f g xs (λ y m. same y (Memᴰ.tail m)) i

-- lists made of a mapped list
pub flat_map_map : {A B C : Type 0} (f : B → List C) (g : A → B) (xs : List A) → flat_map f (map g xs) ≡ flat_map (λ x. f (g x)) xs
unfolding flat_map
flat_map_map f g [] = refl
flat_map_map f g (x ∷ xs) = ap (λ (l : List _). f (g x) ++ l) (flat_map_map f g xs)

module _ {A : Type 0} where
  -- nothing is kept where every element fails
  pub keep_none : (test : A → Bool) (xs : List A) → ((x : A) → Memᴰ x xs → test x ≡ false) → keep test xs ≡ []
  unfolding keep
  keep_none test [] h = refl
  keep_none test (x ∷ xs) h = cond_false (test x) _ _ (h x (Memᴰ.head refl)) ∙ keep_none test xs (λ y m. h y (Memᴰ.tail m))

  -- all is kept where every element passes
  pub keep_all : (test : A → Bool) (xs : List A) → ((x : A) → Memᴰ x xs → test x ≡ true) → keep test xs ≡ xs
  unfolding keep
  keep_all test [] h = refl
  keep_all test (x ∷ xs) h =
      cond_true (test x) _ _ (h x (Memᴰ.head refl))
      ∙ ap (λ (l : List A). x ∷ l) (keep_all test xs (λ y m. h y (Memᴰ.tail m)))

  -- of what passes a test, those that pass a test that asks for more
  pub keep_narrow : (wide narrow : A → Bool) (xs : List A) → ((x : A) → narrow x ≡ true → wide x ≡ true)
      → keep narrow (keep wide xs) ≡ keep narrow xs
  unfolding keep
  keep_narrow wide narrow [] h = refl
  keep_narrow wide narrow (x ∷ xs) h = go (keep_narrow wide narrow xs h) (narrow x) refl (wide x) refl
    where
      go : keep narrow (keep wide xs) ≡ keep narrow xs → (n : Bool) → narrow x ≡ n → (w : Bool) → wide x ≡ w
          → keep narrow (cond w (x ∷ keep wide xs) (keep wide xs)) ≡ cond n (x ∷ keep narrow xs) (keep narrow xs)
      go later true p true q = cond_true (narrow x) _ _ p ∙ ap (λ (l : List A). x ∷ l) later
      go later true p false q = never (sym (h x p) ∙ q)
      go later false p true q = cond_false (narrow x) _ _ p ∙ later
      go later false p false q = later

  -- a function that maps a list to itself leaves each element as it is
  pub map_fixed : (f : A → A) (xs : List A) → map f xs ≡ xs → (x : A) → Memᴰ x xs → f x ≡ x
  map_fixed f [] e x m = absurd (Memᴰ.not-nil m)
  map_fixed f (y ∷ ys) e x m = go (cc) (map_fixed f ys (cc) x) (Memᴰ.cases_cons m)
    where
      go : f y ≡ y → (Memᴰ x ys → f x ≡ x) → (x ≡ y) ⊎ Memᴰ x ys → f x ≡ x
      go here later (inl p) = cc
      go here later (inr k) = later k

  -- tests that agree on a list
  pub any_ext : (f g : A → Bool) (xs : List A) → ((x : A) → Memᴰ x xs → f x ≡ g x) → any f xs ≡ any g xs
  unfolding any
  any_ext f g [] h = refl
  any_ext f g (x ∷ xs) h = λ i. h x (Memᴰ.head refl) i || any_ext f g xs (λ y m. h y (Memᴰ.tail m)) i

  pub all_ext : (f g : A → Bool) (xs : List A) → ((x : A) → Memᴰ x xs → f x ≡ g x) → all f xs ≡ all g xs
  unfolding all
  all_ext f g [] h = refl
  all_ext f g (x ∷ xs) h = λ i. h x (Memᴰ.head refl) i && all_ext f g xs (λ y m. h y (Memᴰ.tail m)) i

  pub keep_ext : (f g : A → Bool) (xs : List A) → ((x : A) → Memᴰ x xs → f x ≡ g x) → keep f xs ≡ keep g xs
  unfolding keep
  keep_ext f g [] h = refl
  keep_ext f g (x ∷ xs) h =
      λ i.
      let kept = keep_ext f g xs (λ y m. h y (Memᴰ.tail m)) i in
      cond (h x (Memᴰ.head refl) i) (x ∷ kept) kept

-- to keep images is to keep elements by their images
pub keep_map : {A B : Type 0} (test : B → Bool) (f : A → B) (xs : List A) → keep test (map f xs) ≡ map f (keep (λ x. test (f x)) xs)
unfolding keep
keep_map test f [] = refl
keep_map {A} {B} test f (x ∷ xs) = go (test (f x)) (keep (λ y. test (f y)) xs) (keep_map test f xs)
  where
    go : (b : Bool) (kept : List A) {images : List B} → images ≡ map f kept → cond b (f x ∷ images) images ≡ map f (cond b (x ∷ kept) kept)
    go true kept e = ap (λ (l : List B). f x ∷ l) e
    go false kept e = e

-- a test of every element made by a function
pub all_map : {A B : Type 0} (f : A → B) (test : B → Bool) (xs : List A) → all test (map f xs) ≡ all (λ x. test (f x)) xs
unfolding all
all_map f test [] = refl
all_map f test (x ∷ xs) = ap (λ (b : Bool). test (f x) && b) (all_map f test xs)

-- and of one element, repeated
pub all_replicate : {A : Type 0} (test : A → Bool) (n : ℕ) (a : A) → test a ≡ true → all test (replicate n a) ≡ true
unfolding all
all_replicate test zero a e = refl
all_replicate test (suc n) a e = and_intro (test a) (all test (replicate n a)) e (all_replicate test n a e)
