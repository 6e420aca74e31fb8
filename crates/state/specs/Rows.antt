-- A state's rows as numbers: the four bytes of a fact, the first of them highest. Facts stand in the order of these numbers.
use Rattle.std.specs.Prelude.{ℕ, zero, suc, ◌+◌, ◌-◌, ◌*◌, ◌/◌, ◌%◌, ◌≤◌, ◌≡◌, Bool, true, cond, ◌&&◌, leb, ltb, eqb, length, get_or, take, drop, replicate}
use mathlib.Core.List.{List, [], ◌∷◌, ◌++◌, flat_map}
use Rattle.model.specs.Card.{Atom, in_range}
use Rattle.model.specs.Strips.{filler, state_bytes, fact_bytes, row_right}
use Rattle.sets.specs.Numbers.{rising}

unfoldable pub row_number : List ℕ → ℕ
row_number row = get_or row 0 0 * 16777216 + get_or row 1 0 * 65536 + get_or row 2 0 * 256 + get_or row 3 0

-- the four bytes of a number
unfoldable pub row_bytes : ℕ → List ℕ
row_bytes n = n / 16777216 ∷ n / 65536 % 256 ∷ n / 256 % 256 ∷ n % 256 ∷ []

unfoldable pub fact_number : Atom → ℕ
fact_number f = row_number (fact_bytes f)

-- the row of this number in a buffer
unfoldable pub row_at : ℕ → List ℕ → List ℕ
row_at i buffer = take 4 (drop (4 * i) buffer)

-- the numbers of a buffer's first n rows
unfoldable pub numbers_in : ℕ → List ℕ → List ℕ
numbers_in zero buffer = []
numbers_in (suc n) buffer = row_number (take 4 buffer) ∷ numbers_in n (drop 4 buffer)

-- The first n rows of a buffer are within it, and their numbers ascend.
pub record RowsAscend (n : ℕ) (buffer : List ℕ) : Type 0 where
  pub room : 4 * n ≤ length buffer
  pub ascends : rising 0 (numbers_in n buffer) ≡ true

-- What bounds the bytes of facts: arities of 1 to 3, and predicates and objects that fit a byte.
pub record Shape (arities : List ℕ) (objects : ℕ) : Type 0 where
  pub right : in_range arities ≡ true
  pub few_predicates : length arities ≤ 20
  pub few_objects : objects ≤ 64

-- the byte at place k of a row is right: a known object up to the arity, filler after it
unfoldable pub place_right : ℕ → ℕ → ℕ → ℕ → Bool
place_right objects arity k byte = cond (leb k arity) (ltb byte objects) (eqb byte filler)

-- the bytes after a row's predicate are right
unfoldable pub places_right : ℕ → ℕ → List ℕ → Bool
places_right objects arity row =
    place_right objects arity 1 (get_or row 1 0) && place_right objects arity 2 (get_or row 2 0) && place_right objects arity 3 (get_or row 3 0)

-- the first n rows are right, and their numbers ascend from `least` on
unfoldable pub rows_in : List ℕ → ℕ → ℕ → ℕ → List ℕ → Bool
rows_in arities objects least zero buffer = true
rows_in arities objects least (suc n) buffer =
    row_right arities objects (take 4 buffer) && leb least (row_number (take 4 buffer))
    && rows_in arities objects (suc (row_number (take 4 buffer))) n (drop 4 buffer)

-- rows written to the front of a buffer, then 0 up to byte 4,096; the bytes beyond are unchanged
unfoldable pub stored : List ℕ → List ℕ → List ℕ
stored numbers buffer =
    flat_map row_bytes numbers ++ replicate (state_bytes - 4 * length numbers) 0 ++ drop state_bytes buffer
