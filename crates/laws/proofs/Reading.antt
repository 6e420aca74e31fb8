-- Runs of bytes made item by item: what they are made of, how long they are, and what holds of each byte.
use Prim.Native.Nat.{ℕ, ◌*◌, ◌≤◌}
use native.Mathlib.Nat.{suc-mul}
use native.Mathlib.Omega.{arith}
use mathlib.Core.Path.{◌≡◌, refl, ap}
use mathlib.Core.Bool.{Bool, true}
use mathlib.Core.List.{List, [], ◌∷◌, ◌++◌, flat_map, Memᴰ}
use lib.ListN.{length, length-append}
use Rattle.laws.specs.Lists.{all}
use Rattle.laws.proofs.Tests.{and_left, and_right, and_intro}

module _ {A : Type 0} where
  -- items of one element each
  pub flat_map_single : (xs : List A) → flat_map (λ x. x ∷ []) xs ≡ xs
  unfolding flat_map
  flat_map_single [] = refl
  flat_map_single (x ∷ xs) = ap (λ (l : List A). x ∷ l) (flat_map_single xs)

  -- every element of two runs passes, where both runs do
  pub all_append : (test : A → Bool) (xs ys : List A) → all test xs ≡ true → all test ys ≡ true → all test (xs ++ ys) ≡ true
  unfolding all
  all_append test [] ys p q = q
  all_append test (x ∷ xs) ys p q =
      and_intro (test x) (all test (xs ++ ys)) (and_left (test x) (all test xs) p)
      (all_append test xs ys (and_right (test x) (all test xs) p) q)

  -- elements that pass a test pass a weaker one
  pub all_weaken : (test weaker : A → Bool) (xs : List A) → ((x : A) → test x ≡ true → weaker x ≡ true) → all test xs ≡ true
      → all weaker xs ≡ true
  unfolding all
  all_weaken test weaker [] f e = refl
  all_weaken test weaker (x ∷ xs) f e =
      and_intro (weaker x) (all weaker xs) (f x (and_left (test x) (all test xs) e))
      (all_weaken test weaker xs f (and_right (test x) (all test xs) e))

  -- the second of two runs passes, where the whole does
  pub all_after : (test : A → Bool) (xs ys : List A) → all test (xs ++ ys) ≡ true → all test ys ≡ true
  unfolding all
  all_after test [] ys p = p
  all_after test (x ∷ xs) ys p = all_after test xs ys (and_right (test x) (all test (xs ++ ys)) p)

module _ {A B : Type 0} where
  -- every element passes, where every item's do
  pub all_flat_map : (test : B → Bool) (f : A → List B) (xs : List A)
      → ((x : A) → Memᴰ x xs → all test (f x) ≡ true) → all test (flat_map f xs) ≡ true
  unfolding all flat_map
  all_flat_map test f [] h = refl
  all_flat_map test f (x ∷ xs) h =
      all_append test (f x) (flat_map f xs) (h x (Memᴰ.head refl)) (all_flat_map test f xs (λ y m. h y (Memᴰ.tail m)))

  -- n items of at most k elements each
  pub length_flat_map : (f : A → List B) (k : ℕ) (xs : List A) → ((x : A) → Memᴰ x xs → length (f x) ≤ k)
      → length (flat_map f xs) ≤ length xs * k
  unfolding flat_map
  length_flat_map f k [] h = omega arith
  length_flat_map f k (x ∷ xs) h =
      let first = h x (Memᴰ.head refl) in
      let later = length_flat_map f k xs (λ y m. h y (Memᴰ.tail m)) in
      omega (arith, length-append (f x) (flat_map f xs), suc-mul (length xs) k)
