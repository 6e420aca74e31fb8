-- Lists by place and in parts: a function of each element's place, and a test on two parts.
use Prim.Native.Nat.{ℕ, ◌<◌}
use mathlib.Core.Path.{◌≡◌, refl, sym, ap, ◌∙◌}
use mathlib.Core.Bool.{Bool, true, false, ◌||◌}
use mathlib.Core.List.{List, [], ◌∷◌, ◌++◌, map, map-map}
use lib.ListN.{length, get_or}
use Rattle.laws.specs.Lists.{any, from, up_to}
use Rattle.laws.proofs.Lists.{up_to_at}
use Rattle.laws.proofs.Mapped.{map_ext}
use Rattle.laws.proofs.Walks.{listed}

-- a function of the place of each element that is one of the element there
pub by_place : {A B : Type 0} (f : A → B) (g : ℕ → B) (xs : List A) (d : A) → ((i : ℕ) → i < length xs → g i ≡ f (get_or xs i d))
    → map g (from 0 (length xs)) ≡ map f xs
unfolding up_to
by_place f g xs d h =
    map_ext g (λ i. f (get_or xs i d)) (up_to (length xs)) (λ i m. h i (up_to_at (length xs) i m))
    ∙ sym (map-map f (λ i. get_or xs i d) (up_to (length xs)))
    ∙ ap (map f) (listed xs d)

-- a function that gives each element at its place
pub each_place : {A : Type 0} (g : ℕ → A) (xs : List A) (d : A) → ((i : ℕ) → i < length xs → g i ≡ get_or xs i d)
    → map g (from 0 (length xs)) ≡ xs
unfolding up_to
each_place g xs d h = map_ext g (λ i. get_or xs i d) (up_to (length xs)) (λ i m. h i (up_to_at (length xs) i m)) ∙ listed xs d

-- some element of two parts passes a test
pub any_parts : {A : Type 0} (test : A → Bool) (xs ys : List A) → any test (xs ++ ys) ≡ (any test xs || any test ys)
unfolding any
any_parts test [] ys = refl
any_parts test (x ∷ xs) ys = go (test x) (any_parts test xs ys)
  where
    go : (b : Bool) → any test (xs ++ ys) ≡ (any test xs || any test ys) → (b || any test (xs ++ ys)) ≡ ((b || any test xs) || any test ys)
    go true e = refl
    go false e = e
