-- Passing over a list: what the elements from a place on say of a test.
use Prim.Native.Nat.{ℕ, ◌+◌, ◌≤◌, ◌<◌}
use native.Mathlib.Numerals.{add-one}
use mathlib.Core.Path.{◌≡◌, refl, sym, ap, ◌∙◌}
use mathlib.Core.Bool.{Bool, true, false, not, ◌&&◌, ◌||◌}
use mathlib.Core.List.{List, [], ◌∷◌}
use lib.ListN.{length, get_or, drop, drop_of_length-le}
use lib.Seq.{drop-cons}
use lib.Dec.{eqb}
use Rattle.std.specs.List.{list_all, list_any}
use Rattle.laws.specs.Lists.{any, all, member, distinct}
use Rattle.state.proofs.RightRows.{eqb_swap}

-- the element at a place, and those after it
next : (xs : List ℕ) (i : ℕ) → i < length xs → drop i xs ≡ get_or xs i 0 ∷ drop (i + 1) xs
next xs i h = drop-cons xs i 0 h ∙ ap (λ (k : ℕ). get_or xs i 0 ∷ drop k xs) (sym (add-one i))

-- nothing is left past the end
past : (xs : List ℕ) (i : ℕ) → length xs ≤ i → drop i xs ≡ []
past xs i h = drop_of_length-le xs h

-- the tests of std are ours
pub listed_all : (test : ℕ → Bool) (xs : List ℕ) → list_all test xs ≡ all test xs
unfolding all
listed_all test [] = refl
listed_all test (x ∷ xs) = ap (λ (b : Bool). test x && b) (listed_all test xs)

pub listed_member : (n : ℕ) (xs : List ℕ) → list_any (λ x. eqb x n) xs ≡ member n xs
unfolding member any
listed_member n [] = refl
listed_member n (x ∷ xs) = λ i. eqb_swap x n i || listed_member n xs i

module _ (xs : List ℕ) (i : ℕ) (total : Bool) (left : distinct (drop i xs) ≡ total) where
  pub distinct_fails : i < length xs → member (get_or xs i 0) (drop (i + 1) xs) ≡ true → false ≡ total
  unfolding distinct
  distinct_fails h e = sym (ap (λ (b : Bool). not b && distinct (drop (i + 1) xs)) e) ∙ sym (ap distinct (next xs i h)) ∙ left

  pub distinct_again : i < length xs → member (get_or xs i 0) (drop (i + 1) xs) ≡ false → distinct (drop (i + 1) xs) ≡ total
  unfolding distinct
  distinct_again h e = sym (ap (λ (b : Bool). not b && distinct (drop (i + 1) xs)) e) ∙ sym (ap distinct (next xs i h)) ∙ left

  pub distinct_end : length xs ≤ i → true ≡ total
  unfolding distinct
  distinct_end h = sym (ap distinct (past xs i h)) ∙ left
