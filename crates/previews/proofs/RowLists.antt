-- Rows of four bytes in a run of bytes: read back as they were written, and compared as bytes.
use Prim.Native.Nat.{ℕ, zero, suc, ◌+◌, ◌-◌, ◌*◌, ◌≤◌}
use native.Mathlib.Nat.{sub-zero}
use native.Mathlib.Omega.{arith}
use mathlib.Core.Path.{◌≡◌, refl, sym, ap, ap₂, ◌∙◌}
use mathlib.Core.Bool.{Bool, true, false, ◌&&◌}
use mathlib.Core.List.{List, [], ◌∷◌, ◌++◌, flat_map, append_assoc, Memᴰ}
use lib.Dec.{eqb}
use lib.Pointwise.{pointwise}
use lib.ListN.{length, take, drop, length-drop}
use lib.Seq.{take_at, drop_at, take-add, length-take-le}
use Rattle.laws.specs.Lists.{same, padded}
use Rattle.laws.proofs.Tests.{never, and_right, and_false_left, and_assoc, by_test}
use Rattle.model.specs.Preview.{same_rows, agree}
use Rattle.previews.specs.Represents.{first_rows, rows_of, preview_of, rows_for}
use Rattle.previews.specs.declared.Rows.{Rows}
use Rattle.previews.specs.declared.Changes.{Changes}

-- Every row has four bytes.
pub record FourEach (rows : List (List ℕ)) : Type 0 where
  pub each : (row : List ℕ) → Memᴰ row rows → length row ≡ 4

later_four : {row : List ℕ} {rows : List (List ℕ)} → FourEach (row ∷ rows) → FourEach rows
later_four four = record { each = λ r m. four.each r (Memᴰ.tail m) }

-- rows one after the other are read back
pub rows_joined : (rows : List (List ℕ)) (rest : List ℕ) → FourEach rows → first_rows (length rows) (flat_map (λ row. row) rows ++ rest) ≡ rows
unfolding first_rows flat_map
rows_joined [] rest four = refl
rows_joined (row ∷ rows) rest four =
    let joined = append_assoc row (flat_map (λ r. r) rows) rest in
    let long = four.each row (Memᴰ.head refl) in
    ap₂ (λ (r : List ℕ) (rs : List (List ℕ)). r ∷ rs)
    (ap (take 4) joined ∙ take_at row _ 4 long)
    (ap (λ (bytes : List ℕ). first_rows (length rows) bytes) (ap (drop 4) joined ∙ drop_at row _ 4 long) ∙ rows_joined rows rest (later_four four))

pub rows_read : (rows : List (List ℕ)) → FourEach rows → rows_of (rows_for rows) ≡ rows
unfolding rows_of rows_for padded
rows_read rows four = rows_joined rows _ four

pub length_first_rows : (n : ℕ) (bytes : List ℕ) → length (first_rows n bytes) ≡ n
unfolding first_rows
length_first_rows zero bytes = refl
length_first_rows (suc n) bytes = ap suc (length_first_rows n (drop 4 bytes))

-- ---- compared

-- what `==` says of two slices
same_pointwise : (xs ys : List ℕ) → pointwise eqb xs ys ≡ same xs ys
unfolding same
same_pointwise [] [] = refl
same_pointwise [] (y ∷ ys) = refl
same_pointwise (x ∷ xs) [] = refl
same_pointwise (x ∷ xs) (y ∷ ys) = ap (λ (b : Bool). eqb x y && b) (same_pointwise xs ys)

same_append : (xs ys zs ws : List ℕ) → length xs ≡ length zs → same (xs ++ ys) (zs ++ ws) ≡ (same xs zs && same ys ws)
unfolding same
same_append [] ys [] ws e = refl
same_append [] ys (z ∷ zs) ws e = absurd (omega arith)
same_append (x ∷ xs) ys [] ws e = absurd (omega arith)
same_append (x ∷ xs) ys (z ∷ zs) ws e =
    ap (λ (b : Bool). eqb x z && b) (same_append xs ys zs ws (omega arith)) ∙ sym (and_assoc (eqb x z) (same xs zs) (same ys ws))

-- n rows are the same if their bytes are
pub rows_as_bytes : (n : ℕ) (xs ys : List ℕ) → 4 * n ≤ length xs → 4 * n ≤ length ys
    → same (take (4 * n) xs) (take (4 * n) ys) ≡ same_rows (first_rows n xs) (first_rows n ys)
unfolding first_rows same_rows same
rows_as_bytes zero xs ys p q = refl
rows_as_bytes (suc n) xs ys p q =
    let first_x = length-take-le 4 xs (omega arith) in
    let first_y = length-take-le 4 ys (omega arith) in
    let rest_x = length-drop 4 xs in
    let rest_y = length-drop 4 ys in
    let split : 4 * suc n ≡ 4 + 4 * n = omega arith in
    ap₂ same (ap (λ (k : ℕ). take k xs) split ∙ take-add 4 (4 * n) xs) (ap (λ (k : ℕ). take k ys) split ∙ take-add 4 (4 * n) ys)
    ∙ same_append (take 4 xs) (take (4 * n) (drop 4 xs)) (take 4 ys) (take (4 * n) (drop 4 ys)) (first_x ∙ sym first_y)
    ∙ ap (λ (b : Bool). same (take 4 xs) (take 4 ys) && b) (rows_as_bytes n (drop 4 xs) (drop 4 ys) (omega arith) (omega arith))

-- lists of different lengths differ
same_number : (xs ys : List (List ℕ)) → same_rows xs ys ≡ true → length xs ≡ length ys
unfolding same_rows
same_number [] [] e = refl
same_number [] (y ∷ ys) e = never (sym e)
same_number (x ∷ xs) [] e = never (sym e)
same_number (x ∷ xs) (y ∷ ys) e = ap suc (same_number xs ys (and_right (same x y) (same_rows xs ys) e))

pub other_number : (given found : Rows) → (given.count ≡ found.count → ⊥) → false ≡ same_rows (rows_of given) (rows_of found)
unfolding rows_of
other_number given found differ =
    by_test (same_rows (first_rows given.count given.rows) (first_rows found.count found.rows))
    (λ e.
    absurd (differ (sym (length_first_rows given.count given.rows) ∙ same_number _ _ e ∙ length_first_rows found.count found.rows)))
    (λ e. sym e)

-- as many rows as were found are compared by their bytes
pub rows_compared : (given found : Rows) → length given.rows ≡ 32 → length found.rows ≡ 32 → found.count ≤ 8 → given.count ≡ found.count
    → pointwise eqb (take (4 * found.count - 0) given.rows) (take (4 * found.count - 0) found.rows) ≡ same_rows (rows_of given) (rows_of found)
unfolding rows_of
rows_compared given found p q few alike =
    same_pointwise (take (4 * found.count - 0) given.rows) (take (4 * found.count - 0) found.rows)
    ∙ ap (λ (k : ℕ). same (take k given.rows) (take k found.rows)) (sub-zero (4 * found.count))
    ∙ rows_as_bytes found.count given.rows found.rows (omega arith) (omega arith)
    ∙ ap (λ (n : ℕ). same_rows (first_rows n given.rows) (first_rows found.count found.rows)) (sym alike)

-- two previews agree if both their lists do
module _ (given found : Changes) {r : Bool} (gone : r ≡ same_rows (rows_of given.gone) (rows_of found.gone)) where
  pub gone_differs : r ≡ false → false ≡ agree (preview_of given) (preview_of found)
  unfolding agree preview_of
  gone_differs e = sym (and_false_left _ _ (sym gone ∙ e))

  pub gone_agrees : {s : Bool} → r ≡ true → s ≡ same_rows (rows_of given.come) (rows_of found.come) → s ≡ agree (preview_of given) (preview_of found)
  unfolding agree preview_of
  gone_agrees e come = come ∙ ap (λ (b : Bool). b && same_rows (rows_of given.come) (rows_of found.come)) (sym (sym gone ∙ e))
