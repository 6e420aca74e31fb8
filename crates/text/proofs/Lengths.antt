-- How long lines are, for whoever has to show that there is room.
use Prim.Native.Nat.{ℕ, suc, ◌+◌, ◌*◌, ◌≤◌, ◌<◌}
use native.Mathlib.Nat.{mul-suc}
use native.Mathlib.Omega.{arith}
use mathlib.Core.Path.{◌≡◌, refl, ap, ◌∙◌}
use mathlib.Core.List.{List, [], ◌∷◌, ◌++◌, map, flat_map, Memᴰ}
use lib.ListN.{length, length-append}
use Rattle.masks.proofs.Ascending.{Below}
use Rattle.model.specs.Lines.{Line, space, state, limit, membership, exclusion, nesting, total, ceiling, types}
use Rattle.model.specs.Text.{decimal, items, spaced, line_text, text}
use Rattle.model.specs.Spaces.{Kind}
use Rattle.text.specs.Letters.{newline, letter_c, letter_d, letter_e, letter_f, letter_m, letter_r, letter_s, letter_x}
use Rattle.text.specs.Numbers.{numbers, last_numbers}
use Rattle.text.proofs.Decimal.{two_digits, five_digits}
use Rattle.text.proofs.LineTexts.{one_number_lem, two_numbers, state_parts, types_parts, head_parts, front_parts, space_parts, membership_end}
use Rattle.text.proofs.NumberRows.{first_number}
use Rattle.text.proofs.Writing.{Begins}

-- a text is as long as its parts
pub parts_length : {whole front back : List ℕ} → Begins whole front back → length whole ≡ length front + length back
parts_length {front = front} {back = back} b = ap length b.path ∙ length-append front back

module _ (most bound : ℕ) (short : (n : ℕ) → n < bound → length (decimal n) ≤ most) where
  -- numbers with so many digits
  numbers_within : (ns : List ℕ) → Below bound ns → length (numbers ns) ≤ suc most * length ns
  unfolding numbers flat_map
  numbers_within [] h = omega arith
  numbers_within (n ∷ ns) h =
      omega (
        arith,
        parts_length (first_number n ns),
        short n (h n (Memᴰ.head refl)),
        numbers_within ns (λ m k. h m (Memᴰ.tail k)),
        mul-suc (suc most) (length ns),
      )

-- numbers of two digits, as objects and properties have, and of five, as counts have
pub two_digit_numbers : (ns : List ℕ) → Below 100 ns → length (numbers ns) ≤ 3 * length ns
two_digit_numbers = numbers_within 2 100 two_digits

pub five_digit_numbers : (ns : List ℕ) → Below 100000 ns → length (numbers ns) ≤ 6 * length ns
five_digit_numbers = numbers_within 5 100000 five_digits

last_numbers_length : (ns : List ℕ) → length (last_numbers ns) ≡ 3 + length (numbers ns)
unfolding last_numbers
last_numbers_length ns = simp length-append (omega arith)

one_length : (letter a : ℕ) → length (spaced ((letter ∷ []) ∷ decimal a ∷ [])) ≡ 2 + length (decimal a)
one_length letter a = omega (arith, parts_length (one_number_lem letter a))

two_length : (letter a b : ℕ) → length (spaced ((letter ∷ []) ∷ decimal a ∷ decimal b ∷ [])) ≡ 3 + length (decimal a) + length (decimal b)
two_length letter a b = omega (arith, parts_length (two_numbers letter a b), one_length letter a)

pair_length : (letter a b : ℕ)
    → length (spaced ((letter ∷ []) ∷ decimal a ∷ decimal b ∷ []) ++ (newline ∷ [])) ≡ 4 + length (decimal a) + length (decimal b)
pair_length letter a b = simp length-append (omega (arith, two_length letter a b))

-- T: four bytes and at most six for each count
pub state_length : (counts : List ℕ) → Below 100000 counts → length (line_text (state counts)) ≤ 4 + 6 * length counts
state_length counts h = omega (arith, parts_length (state_parts counts), last_numbers_length counts, five_digit_numbers counts h)

-- M, D, X, E, F, C
pub limit_length : (c most : ℕ) → c < 100 → most < 100000 → length (line_text (limit c most)) ≤ 11
unfolding line_text items
limit_length c most h k = omega (arith, pair_length letter_m c most, two_digits c h, five_digits most k)

pub membership_length : (i : ℕ) → i < 100 → length (line_text (membership i)) ≤ 5
membership_length i h = omega (arith, parts_length (membership_end i), one_length letter_d i, two_digits i h)

pub exclusion_length : (i j : ℕ) → i < 100 → j < 100 → length (line_text (exclusion i j)) ≤ 8
unfolding line_text items
exclusion_length i j h k = omega (arith, pair_length letter_x i j, two_digits i h, two_digits j k)

pub nesting_length : (i j : ℕ) → i < 100 → j < 100 → length (line_text (nesting i j)) ≤ 8
unfolding line_text items
nesting_length i j h k = omega (arith, pair_length letter_e i j, two_digits i h, two_digits j k)

pub total_length : (p n : ℕ) → p < 100 → n < 100000 → length (line_text (total p n)) ≤ 11
unfolding line_text items
total_length p n h k = omega (arith, pair_length letter_f p n, two_digits p h, five_digits n k)

pub ceiling_length : (p n : ℕ) → p < 100 → n < 100000 → length (line_text (ceiling p n)) ≤ 11
unfolding line_text items
ceiling_length p n h k = omega (arith, pair_length letter_c p n, two_digits p h, five_digits n k)

-- R: ten bytes and at most three for each object
pub types_length : (schema parameter : ℕ) (objects : List ℕ) → schema < 100 → parameter < 100 → Below 100 objects
    → length (line_text (types schema parameter objects)) ≤ 10 + 3 * length objects
types_length schema parameter objects h k o =
    omega (
      arith,
      parts_length (types_parts schema parameter objects),
      two_length letter_r schema parameter,
      two_digits schema h,
      two_digits parameter k,
      last_numbers_length objects,
      two_digit_numbers objects o,
    )

-- S: eleven bytes and at most three for each property and member
pub space_length : (n : ℕ) (kind : Kind) (properties members : List ℕ) → n < 100 → Below 100 properties → Below 100 members
    → length (line_text (space n kind properties members)) ≤ 11 + 3 * length properties + 3 * length members
space_length n kind properties members h p m =
    omega (
      arith,
      parts_length (space_parts n kind properties members),
      parts_length (front_parts n kind properties),
      parts_length (head_parts n kind),
      one_length letter_s n,
      two_digits n h,
      two_digit_numbers properties p,
      last_numbers_length members,
      two_digit_numbers members m,
    )

-- lines of at most so many bytes, one for each element of a list
pub text_length : {A : Type 0} (most : ℕ) (line : A → Line) (xs : List A) → ((x : A) → Memᴰ x xs → length (line_text (line x)) ≤ most)
    → length (text (map line xs)) ≤ most * length xs
unfolding text flat_map
text_length most line [] h = omega arith
text_length most line (x ∷ xs) h =
    omega (
      arith,
      length-append (line_text (line x)) (text (map line xs)),
      h x (Memᴰ.head refl),
      text_length most line xs (λ y k. h y (Memᴰ.tail k)),
      mul-suc most (length xs),
    )
