-- Bounds on sums, the length of lists one after the other, and positions past the end.
use Prim.Native.Nat.{ℕ, zero, suc, ◌+◌, ◌*◌, ◌≤◌, zero-le}
use native.Mathlib.Nat.{mul-suc, not-suc-le-zero, le_of_suc-le-suc}
use native.Mathlib.Omega.{arith}
use mathlib.Core.Path.{◌≡◌, refl, ap, ◌∙◌}
use mathlib.Core.Bool.{false}
use mathlib.Core.List.{List, [], ◌∷◌, map, flat_map, Memᴰ}
use lib.ListN.{length, length-append}
use Rattle.laws.specs.Lists.{sum, stands_at}

module _ {A : Type 0} where
  -- summands of at most n
  pub sum_at_most : (f : A → ℕ) (n : ℕ) (xs : List A) → ((x : A) → Memᴰ x xs → f x ≤ n) → sum (map f xs) ≤ n * length xs
  unfolding sum
  sum_at_most f n [] h = zero-le
  sum_at_most f n (x ∷ xs) h =
      omega (arith, h x (Memᴰ.head refl), sum_at_most f n xs (λ y m. h y (Memᴰ.tail m)), mul-suc n (length xs))

module _ {A B : Type 0} where
  -- a list made element by element is as long as its parts together
  pub length_flat_map : (f : A → List B) (xs : List A) → length (flat_map f xs) ≡ sum (map (λ x. length (f x)) xs)
  unfolding flat_map sum
  length_flat_map f [] = refl
  length_flat_map f (x ∷ xs) = length-append (f x) (flat_map f xs) ∙ ap (λ (n : ℕ). length (f x) + n) (length_flat_map f xs)

-- nothing stands past the end
pub stands_at_past : (x i : ℕ) (ys : List ℕ) → length ys ≤ i → stands_at x i ys ≡ false
unfolding stands_at
stands_at_past x i [] h = refl
stands_at_past x zero (y ∷ ys) h = absurd (not-suc-le-zero h)
stands_at_past x (suc i) (y ∷ ys) h = stands_at_past x i ys (le_of_suc-le-suc h)
