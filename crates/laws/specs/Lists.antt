-- The functions on lists that the definitions use beside the library's own.
use Rattle.std.specs.Prelude.{ℕ, zero, suc, ◌+◌, ◌-◌, Bool, true, false, cond, not, ◌&&◌, ◌||◌, List, [], ◌∷◌, ◌++◌, eqb, ltb, length, replicate}

module _ {A : Type 0} where
  -- some element passes the test
  unfoldable pub any : (A → Bool) → List A → Bool
  any test [] = false
  any test (x ∷ xs) = test x || any test xs

  -- every element passes the test
  unfoldable pub all : (A → Bool) → List A → Bool
  all test [] = true
  all test (x ∷ xs) = test x && all test xs

  -- the elements that pass the test, in their order
  unfoldable pub keep : (A → Bool) → List A → List A
  keep test [] = []
  keep test (x ∷ xs) = let kept = keep test xs in cond (test x) (x ∷ kept) kept

  -- how many elements pass the test
  unfoldable pub count : (A → Bool) → List A → ℕ
  count test [] = 0
  count test (x ∷ xs) = let counted = count test xs in cond (test x) (suc counted) counted

  -- a list filled up to a length
  unfoldable pub padded : ℕ → A → List A → List A
  padded size blank xs = xs ++ replicate (size - length xs) blank

-- `size` numbers in sequence, the first of them `start`
unfoldable pub from : ℕ → ℕ → List ℕ
from start zero = []
from start (suc size) = start ∷ from (suc start) size

-- the numbers below n, ascending
unfoldable pub up_to : ℕ → List ℕ
up_to n = from 0 n

unfoldable pub sum : List ℕ → ℕ
sum [] = 0
sum (n ∷ ns) = n + sum ns

unfoldable pub member : ℕ → List ℕ → Bool
member n ns = any (eqb n) ns

-- no number stands twice
unfoldable pub distinct : List ℕ → Bool
distinct [] = true
distinct (n ∷ ns) = not (member n ns) && distinct ns

-- two lists of numbers are the same
unfoldable pub same : List ℕ → List ℕ → Bool
same [] [] = true
same [] (y ∷ ys) = false
same (x ∷ xs) [] = false
same (x ∷ xs) (y ∷ ys) = eqb x y && same xs ys

-- the first list stands before the second in the order by elements, front to back
unfoldable pub before : List ℕ → List ℕ → Bool
before [] [] = false
before [] (y ∷ ys) = true
before (x ∷ xs) [] = false
before (x ∷ xs) (y ∷ ys) = ltb x y || (eqb x y && before xs ys)

-- the number x stands at position i
unfoldable pub stands_at : ℕ → ℕ → List ℕ → Bool
stands_at x i [] = false
stands_at x zero (y ∷ ys) = eqb x y
stands_at x (suc i) (y ∷ ys) = stands_at x i ys

-- opens every definition of this module, for what is proved by computation
unfoldable pub lists_open : Unit {0}
unfolding any all keep count padded from up_to sum member distinct same before stands_at
lists_open = tt
