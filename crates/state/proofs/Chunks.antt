-- The rows of a buffer as the library cuts it, into chunks of four bytes.
use Prim.Native.Nat.{ℕ, zero, suc, ◌+◌, ◌*◌, ◌≤◌, ◌<◌}
use native.Mathlib.Nat.{le_of_suc-le-suc, not-suc-le-zero}
use native.Mathlib.Omega.{arith}
use mathlib.Core.Path.{◌≡◌, refl, ap, ◌∙◌}
use mathlib.Core.List.{List, [], ◌∷◌}
use lib.ListN.{length, get_or, take, drop}
use lib.Seq.{drop-drop}
use Rattle.std.specs.Simd.{first_chunks}
use Rattle.state.specs.Rows.{row_at}

-- the first of some rows
pub first_rows : (j k : ℕ) (buffer : List ℕ) → j ≤ k → take j (first_chunks 4 k buffer) ≡ first_chunks 4 j buffer
first_rows zero k buffer h = refl
first_rows (suc j) zero buffer h = absurd (not-suc-le-zero h)
first_rows (suc j) (suc k) buffer h = ap (λ (l : List (List ℕ)). take 4 buffer ∷ l) (first_rows j k (drop 4 buffer) (le_of_suc-le-suc h))

pub length_rows_of : (k : ℕ) (buffer : List ℕ) → length (first_chunks 4 k buffer) ≡ k
length_rows_of zero buffer = refl
length_rows_of (suc k) buffer = ap suc (length_rows_of k (drop 4 buffer))

-- one of them
pub one_row : (i k : ℕ) (buffer : List ℕ) (d : List ℕ) → i < k → get_or (first_chunks 4 k buffer) i d ≡ row_at i buffer
unfolding row_at
one_row i zero buffer d h = absurd (not-suc-le-zero h)
one_row zero (suc k) buffer d h = refl
one_row (suc i) (suc k) buffer d h =
    one_row i k (drop 4 buffer) d (le_of_suc-le-suc h)
    ∙ ap (take 4) (drop-drop (4 * i) 4 buffer ∙ ap (λ (m : ℕ). drop m buffer) (let e : 4 + 4 * i ≡ 4 * suc i = omega arith in e))

-- The rows that a loop goes over.
module _ (items : List (List ℕ)) (count : ℕ) (buffer : List ℕ) (are : items ≡ first_chunks 4 count buffer) where
  pub rows_counted : length items ≡ count
  rows_counted = ap length are ∙ length_rows_of count buffer

  pub row_here : {i : ℕ} → i < length items → get_or items i [] ≡ row_at i buffer
  row_here {i} h =
      ap (λ (l : List (List ℕ)). get_or l i []) are ∙ one_row i count buffer [] (let all = rows_counted in omega arith)

  pub row_inside : {i : ℕ} → i < length items → i < count
  row_inside h = let all = rows_counted in omega arith

  pub rows_over : {i : ℕ} → length items ≤ i → count ≤ i
  rows_over h = let all = rows_counted in omega arith
