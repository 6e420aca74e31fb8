-- Finding a row by its number, among rows whose numbers ascend.
use Prim.Native.Nat.{ℕ, zero, suc, ◌+◌, ◌*◌, ◌≤◌, ◌<◌}
use native.Mathlib.Nat.{le_of_suc-le-suc, not-suc-le-zero}
use native.Mathlib.Omega.{arith}
use mathlib.Core.Path.{◌≡◌, refl, sym, ap, ◌∙◌, subst}
use mathlib.Core.Bool.{false}
use mathlib.Core.List.{List}
use lib.Dec.{eqb}
use lib.ListN.{length, get_or, take, drop}
use lib.Seq.{drop-drop}
use Rattle.laws.specs.Lists.{member}
use Rattle.sets.specs.Numbers.{place}
use Rattle.sets.proofs.Ascending.{place_within, place_past, place_up_to, member_at_place, member_past_end}
use Rattle.state.specs.Rows.{row_number, row_at, numbers_in, RowsAscend}
use Rattle.state.proofs.RowBytes.{four_at}
use Rattle.state.proofs.Writing.{length_numbers_in}

-- a number of the rows is that of the row at its place
number_at : (n i : ℕ) (buffer : List ℕ) → i < n → get_or (numbers_in n buffer) i 0 ≡ row_number (row_at i buffer)
unfolding numbers_in row_at
number_at zero i buffer h = absurd (not-suc-le-zero h)
number_at (suc n) zero buffer h = refl
number_at (suc n) (suc i) buffer h =
    number_at n i (drop 4 buffer) (le_of_suc-le-suc h)
    ∙ ap (λ (l : List ℕ). row_number (take 4 l))
    (drop-drop (4 * i) 4 buffer ∙ ap (λ (k : ℕ). drop k buffer) (let e : 4 + 4 * i ≡ 4 * suc i = omega arith in e))

module _ {count : ℕ} {buffer : List ℕ} (rows : RowsAscend count buffer) (n : ℕ) where
  abbrev numbers : List ℕ
  numbers = numbers_in count buffer

  size : length numbers ≡ count
  size = length_numbers_in count buffer

  -- at most all rows have a number below n
  pub below_within : place n numbers ≤ count
  below_within = let all = size in let within = place_within n numbers in omega arith

  -- A row, and its number.
  module _ {i r : ℕ} (inside : i < count) (read : r ≡ row_number (row_at i buffer)) where
    is : get_or numbers i 0 ≡ r
    is = number_at count i buffer inside ∙ sym read

    within : i < length numbers
    within = let all = size in omega arith

    -- rows up to one that is below n are below it, and those from another on are not
    pub below_past : r < n → i < place n numbers
    below_past h = place_past 0 n numbers rows.ascends i within (let same = is in omega arith)

    pub below_up_to : n ≤ r → place n numbers ≤ i
    below_up_to h = place_up_to n numbers i within (let same = is in omega arith)

    -- the first row that is not below n has the number, or none has it
    pub number_there : i ≡ place n numbers → eqb r n ≡ member n numbers
    number_there p =
        ap (λ (m : ℕ). eqb m n) (sym is) ∙ ap (λ (k : ℕ). eqb (get_or numbers k 0) n) p
        ∙ sym (member_at_place n 0 numbers rows.ascends (subst (λ (k : ℕ). k < length numbers) p within))

  pub number_missing : count ≤ place n numbers → false ≡ member n numbers
  number_missing h = sym (member_past_end n numbers (let all = size in omega arith))

-- the rows of a predicate: from its least number on, and below that of the next predicate
pub predicate_rows :
    {count i : ℕ} {buffer : List ℕ} → RowsAscend count buffer → i < count → ((k : ℕ) → get_or buffer k 0 < 256) → (p : ℕ) → get_or buffer (4 * i) 0 ≡ p
    → (place (p * 16777216) (numbers_in count buffer) ≤ i) × (i < place ((p + 1) * 16777216) (numbers_in count buffer))
unfolding row_at row_number
predicate_rows {count} {i} {buffer} rows inside small p e =
    let room = rows.room in
    let read = ap row_number (sym (four_at (4 * i) buffer (omega arith))) in
    let second = small (4 * i + 1) in
    let third = small (4 * i + 2) in
    let fourth = small (4 * i + 3) in
    (below_up_to rows (p * 16777216) inside read (omega arith), below_past rows ((p + 1) * 16777216) inside read (omega arith))
