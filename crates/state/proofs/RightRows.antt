-- Right rows: four bytes that are right place by place, the fact they stand for, and a buffer's rows in order.
use Prim.Native.Nat.{ℕ, zero, suc, ◌+◌, ◌-◌, ◌*◌, ◌≤◌, ◌<◌, zero-le}
use native.Mathlib.Nat.{not-suc-le-zero}
use native.Mathlib.Numerals.{add-one}
use native.Mathlib.Omega.{arith}
use mathlib.Core.Path.{◌≡◌, refl, sym, ap, ◌∙◌, subst}
use mathlib.Core.Bool.{Bool, true, false, ◌&&◌}
use mathlib.Core.Option.{Option, none, some}
use mathlib.Core.List.{List, [], ◌∷◌}
use lib.Dec.{ltb, leb, eqb}
use lib.ListN.{length, get_or, take, drop, length-drop}
use lib.Seq.{take_all, drop-drop, get_or-drop}
use borrow.Author.Tests.{lt-ltb, le-ltb, eq-eqb, eqb-true, ltb-true, ltb-false, leb-true, le-leb, lt-leb}
use Rattle.laws.specs.Lists.{all, before}
use Rattle.laws.proofs.Tests.{never, and_left, and_right, and_swap, same_test, by_test}
use Rattle.model.specs.Card.{Atom, in_range, above}
use Rattle.model.specs.Writer.{known}
use Rattle.model.specs.Strips.{fact_bytes, fact_at, facts_in, row_right, rows_right, ascending, well_formed}
use Rattle.model.proofs.Order.{bytes_order}
use Rattle.model.proofs.Checked.{arity_within}
use Rattle.state.specs.Rows.{row_number, fact_number, row_at, place_right, rows_in}
use Rattle.state.proofs.RowBytes.{Four, four_at, number_order}

-- which of two numbers is named first does not matter
pub eqb_swap : (m n : ℕ) → eqb m n ≡ eqb n m
eqb_swap m n =
    same_test (eqb m n) (eqb n m) (λ e. eq-eqb n m (sym (eqb-true m n e))) (λ e. eq-eqb m n (sym (eqb-true n m e)))

-- one, two or three arguments, and filler for the others
one_right : (a b c : Bool) → ((true && true && (a && true)) && (b && (c && true))) ≡ (a && b && c)
one_right true true true = refl
one_right true true false = refl
one_right true false c = refl
one_right false b c = refl

two_right : (a b c : Bool) → ((true && true && (a && (b && true))) && (c && true)) ≡ (a && b && c)
two_right true true true = refl
two_right true true false = refl
two_right true false c = refl
two_right false b c = refl

three_right : (a b c : Bool) → ((true && true && (a && (b && (c && true)))) && true) ≡ (a && b && c)
three_right true true true = refl
three_right true true false = refl
three_right true false c = refl
three_right false b c = refl

-- a row whose predicate is known is right if its three places are
pub row_right_places :
    (arities : List ℕ) (objects p x y z arity : ℕ) → get_or arities p 0 ≡ arity → p < length arities → 1 ≤ arity → arity ≤ 3
    → row_right arities objects (p ∷ x ∷ y ∷ z ∷ [])
    ≡ (place_right objects arity 1 x && place_right objects arity 2 y && place_right objects arity 3 z)
unfolding row_right known fact_at all place_right
row_right_places arities objects p x y z zero e h low high = absurd (not-suc-le-zero low)
row_right_places arities objects p x y z (suc zero) e h low high =
    rw (e, lt-ltb p (length arities) h, eqb_swap 255 y, eqb_swap 255 z) (one_right (ltb x objects) (eqb y 255) (eqb z 255))
row_right_places arities objects p x y z (suc (suc zero)) e h low high =
    rw (e, lt-ltb p (length arities) h, eqb_swap 255 z) (two_right (ltb x objects) (ltb y objects) (eqb z 255))
row_right_places arities objects p x y z (suc (suc (suc zero))) e h low high =
    rw (e, lt-ltb p (length arities) h) (three_right (ltb x objects) (ltb y objects) (ltb z objects))
row_right_places arities objects p x y z (suc (suc (suc (suc k)))) e h low high = absurd (omega arith)

-- and one whose predicate is unknown is not
pub row_right_unknown :
    (arities : List ℕ) (objects p x y z : ℕ) → length arities ≤ p → row_right arities objects (p ∷ x ∷ y ∷ z ∷ []) ≡ false
unfolding row_right known fact_at
row_right_unknown arities objects p x y z h = rw (le-ltb p (length arities) h)

-- a right row is the four bytes of the fact that it stands for
pub right_row_fact :
    (arities : List ℕ) (objects p x y z : ℕ) → in_range arities ≡ true → row_right arities objects (p ∷ x ∷ y ∷ z ∷ []) ≡ true
    → fact_bytes (fact_at arities (p ∷ x ∷ y ∷ z ∷ [])) ≡ p ∷ x ∷ y ∷ z ∷ []
unfolding fact_bytes fact_at place_right
right_row_fact arities objects p x y z right e =
    by_test (ltb p (length arities))
    (λ h. let known = ltb-true p (length arities) h in
    let within = arity_within arities p right known in
    go (get_or arities p 0) refl within.0 within.1
    (sym (row_right_places arities objects p x y z (get_or arities p 0) refl known within.0 within.1) ∙ e))
    (λ h. never (sym e ∙ row_right_unknown arities objects p x y z (ltb-false p (length arities) h)))
  where
    go : (arity : ℕ) → get_or arities p 0 ≡ arity → 1 ≤ arity → arity ≤ 3
        → (place_right objects arity 1 x && place_right objects arity 2 y && place_right objects arity 3 z) ≡ true
        → fact_bytes (fact_at arities (p ∷ x ∷ y ∷ z ∷ [])) ≡ p ∷ x ∷ y ∷ z ∷ []
    go zero k low high r = absurd (not-suc-le-zero low)
    go (suc zero) k low high r =
        let third = eqb-true z 255 (and_right (ltb x objects && eqb y 255) (eqb z 255) r) in
        let second = eqb-true y 255 (and_right (ltb x objects) (eqb y 255) (and_left (ltb x objects && eqb y 255) (eqb z 255) r)) in
        rw (k, second, third)
    go (suc (suc zero)) k low high r =
        let third = eqb-true z 255 (and_right (ltb x objects && ltb y objects) (eqb z 255) r) in
        rw (k, third)
    go (suc (suc (suc zero))) k low high r = rw k
    go (suc (suc (suc (suc n)))) k low high r = absurd (omega arith)

-- a number at or above the next one is above
leb_next : (m n : ℕ) → leb (suc m) n ≡ ltb m n
leb_next m n = same_test (leb (suc m) n) (ltb m n) (λ e. lt-ltb m n (leb-true (suc m) n e)) (λ e. le-leb (suc m) n (ltb-true m n e))

-- What is known of the fact before a row: none, and any number will do, or one with its number.
pub data Before (arities : List ℕ) (objects : ℕ) : Option Atom → ℕ → Type 0 where
  at_start : Before arities objects none 0
  after : (f : Atom) → known arities objects f ≡ true → Four (fact_bytes f) → Before arities objects (some f) (suc (fact_number f))

module _ (arities : List ℕ) (objects : ℕ) (right : in_range arities ≡ true) where
  -- a right row stands above the fact before it if its number does
  in_order :
      (previous : Option Atom) (least : ℕ) → Before arities objects previous least
      → (f : Atom) → known arities objects f ≡ true → Four (fact_bytes f) → leb least (fact_number f) ≡ above previous f
  unfolding above fact_number
  in_order previous least at_start f k r = le-leb 0 (fact_number f) zero-le
  in_order previous least (after g kg rg) f k r =
      leb_next (row_number (fact_bytes g)) (row_number (fact_bytes f)) ∙ number_order (fact_bytes g) (fact_bytes f) rg r
      ∙ bytes_order arities objects g f kg k

  -- the rows of a buffer are right and their numbers ascend, or: they are right and their facts ascend
  pub rows_in_lem :
      (n : ℕ) (buffer : List ℕ) (previous : Option Atom) (least : ℕ) → Before arities objects previous least
      → 4 * n ≤ length buffer → ((i : ℕ) → get_or buffer i 0 < 256)
      → rows_in arities objects least n buffer
      ≡ (rows_right arities objects n buffer && ascending previous (facts_in arities n buffer))
  unfolding rows_in rows_right ascending facts_in
  rows_in_lem zero buffer previous least before room small = refl
  rows_in_lem (suc n) buffer previous least before room small =
      step (row_right arities objects (take 4 buffer)) refl
      (λ b. rows_in_lem n (drop 4 buffer) (some (fact_at arities (take 4 buffer))) (suc (fact_number (fact_at arities (take 4 buffer)))) b
      (let l = length-drop 4 buffer in omega arith)
      (λ i. subst (λ (k : ℕ). k < 256) (sym (get_or-drop 4 buffer i 0)) (small (4 + i))))
    where
      f : Atom
      f = fact_at arities (take 4 buffer)

      bytes : take 4 buffer ≡ get_or buffer 0 0 ∷ get_or buffer 1 0 ∷ get_or buffer 2 0 ∷ get_or buffer 3 0 ∷ []
      bytes = four_at 0 buffer (omega arith)

      four : Four (take 4 buffer)
      four = record {
        first = get_or buffer 0 0;
        second = get_or buffer 1 0;
        third = get_or buffer 2 0;
        fourth = get_or buffer 3 0;
        are = bytes;
        small = (small 0, small 1, small 2, small 3);
      }

      fact : row_right arities objects (take 4 buffer) ≡ true → fact_bytes f ≡ take 4 buffer
      fact e =
          ap (λ (r : List ℕ). fact_bytes (fact_at arities r)) bytes
          ∙ right_row_fact arities objects (get_or buffer 0 0) (get_or buffer 1 0) (get_or buffer 2 0) (get_or buffer 3 0) right
          (sym (ap (row_right arities objects) bytes) ∙ e)
          ∙ sym bytes

      step : (r : Bool) → row_right arities objects (take 4 buffer) ≡ r
          → (Before arities objects (some f) (suc (fact_number f))
          → rows_in arities objects (suc (fact_number f)) n (drop 4 buffer)
          ≡ (rows_right arities objects n (drop 4 buffer) && ascending (some f) (facts_in arities n (drop 4 buffer))))
          → (r && leb least (row_number (take 4 buffer)) && rows_in arities objects (suc (row_number (take 4 buffer))) n (drop 4 buffer))
          ≡ ((r && rows_right arities objects n (drop 4 buffer))
          && (above previous f && ascending (some f) (facts_in arities n (drop 4 buffer))))
      step false e later = refl
      step true e later =
          let number : row_number (take 4 buffer) ≡ fact_number f = (unfold fact_number in ap row_number (sym (fact e))) in
          let four_bytes : Four (fact_bytes f) = subst Four (sym (fact e)) four in
          let is_known : known arities objects f ≡ true = (unfold row_right in and_left (known arities objects f) _ e) in
          ap (λ (k : ℕ). leb least k && rows_in arities objects (suc k) n (drop 4 buffer)) number
          ∙ ap (λ (b : Bool). b && rows_in arities objects (suc (fact_number f)) n (drop 4 buffer))
          (in_order previous least before f is_known four_bytes)
          ∙ ap (λ (b : Bool). above previous f && b) (later (after f is_known four_bytes))
          ∙ and_swap (above previous f) (rows_right arities objects n (drop 4 buffer))
          (ascending (some f) (facts_in arities n (drop 4 buffer)))

-- so 15 is one pass over the rows
pub well_formed_rows :
    (arities : List ℕ) (objects : ℕ) (buffer : List ℕ) (count : ℕ) → in_range arities ≡ true → ((i : ℕ) → get_or buffer i 0 < 256)
    → 4096 ≤ length buffer → count ≤ 1024
    → rows_in arities objects 0 count buffer ≡ well_formed arities objects buffer count
unfolding well_formed
well_formed_rows arities objects buffer count right small large few =
    rows_in_lem arities objects right count buffer none 0 at_start (omega arith) small
    ∙ sym (rw (le-leb 4096 (length buffer) large, le-leb count 1024 few) refl)

-- a buffer that is too short, and a count that is too large
module _ (arities : List ℕ) (objects : ℕ) (buffer : List ℕ) (count : ℕ) where
  pub small_buffer : length buffer < 4096 → false ≡ well_formed arities objects buffer count
  unfolding well_formed
  small_buffer h = rw (lt-leb 4096 (length buffer) h)

  pub large_count : 4096 ≤ length buffer → 1024 < count → false ≡ well_formed arities objects buffer count
  unfolding well_formed
  large_count h k = rw (le-leb 4096 (length buffer) h, lt-leb count 1024 k)

-- a test that fails, and the last of three
pub first_fails : (a b c : Bool) → a ≡ false → false ≡ (a && b && c)
first_fails true b c e = never e
first_fails false b c e = refl

pub second_fails : (a b c : Bool) → a ≡ true → b ≡ false → false ≡ (a && b && c)
second_fails true true c e k = never k
second_fails true false c e k = refl
second_fails false b c e k = never (sym e)

pub third_decides : (a b c : Bool) → a ≡ true → b ≡ true → c ≡ (a && b && c)
third_decides true true c e k = refl
third_decides true false c e k = never (sym k)
third_decides false b c e k = never (sym e)

-- a row, byte by byte
module _ (arities : List ℕ) (objects : ℕ) (row : List ℕ) (four : length row ≡ 4) where
  bytes_of : row ≡ get_or row 0 0 ∷ get_or row 1 0 ∷ get_or row 2 0 ∷ get_or row 3 0 ∷ []
  bytes_of = sym (take_all 4 row (omega arith)) ∙ four_at 0 row (omega arith)

  pub row_unknown : length arities ≤ get_or row 0 0 → false ≡ row_right arities objects row
  row_unknown h = sym (ap (row_right arities objects) bytes_of ∙ row_right_unknown arities objects (get_or row 0 0) _ _ _ h)

  -- a row of a known predicate by its three places
  pub row_places :
      {arity : ℕ} → arity ≡ get_or arities (get_or row 0 0) 0 → in_range arities ≡ true → get_or row 0 0 < length arities
      → (place_right objects arity 1 (get_or row 1 0) && place_right objects arity 2 (get_or row 2 0) && place_right objects arity 3 (get_or row 3 0))
      ≡ row_right arities objects row
  row_places {arity} e right h =
      let within = arity_within arities (get_or row 0 0) right h in
      sym (ap (row_right arities objects) bytes_of
      ∙ row_right_places arities objects (get_or row 0 0) _ _ _ arity (sym e) h (omega arith) (omega arith))

-- The pass over the rows: what the rows from i on say.
module _ (arities : List ℕ) (objects count : ℕ) (buffer : List ℕ) where
  pub rows_step :
      (least i : ℕ) → i < count
      → (row_right arities objects (row_at i buffer) && leb least (row_number (row_at i buffer))
      && rows_in arities objects (row_number (row_at i buffer) + 1) (count - (i + 1)) (drop (4 * (i + 1)) buffer))
      ≡ rows_in arities objects least (count - i) (drop (4 * i) buffer)
  unfolding rows_in row_at
  rows_step least i h =
      let left : count - i ≡ suc (count - (i + 1)) = omega arith in
      let next : 4 * i + 4 ≡ 4 * (i + 1) = omega arith in
      let row : List ℕ = take 4 (drop (4 * i) buffer) in
      let later : ℕ → List ℕ → Bool = λ m l. rows_in arities objects m (count - (i + 1)) l in
      ap (λ (m : ℕ). row_right arities objects row && leb least (row_number row) && later m (drop (4 * (i + 1)) buffer)) (add-one (row_number row))
      ∙ ap (λ (l : List ℕ). row_right arities objects row && leb least (row_number row) && later (suc (row_number row)) l)
      (ap (λ (k : ℕ). drop k buffer) (sym next) ∙ sym (drop-drop 4 (4 * i) buffer))
      ∙ ap (λ (k : ℕ). rows_in arities objects least k (drop (4 * i) buffer)) (sym left)

module _ (arities : List ℕ) (objects : ℕ) (buffer : List ℕ) (least : ℕ) {count i : ℕ} where
  -- no row is left
  pub rows_end : count ≤ i → true ≡ rows_in arities objects least (count - i) (drop (4 * i) buffer)
  unfolding rows_in
  rows_end h =
      let none_left : count - i ≡ 0 = omega arith in
      sym (ap (λ (k : ℕ). rows_in arities objects least k (drop (4 * i) buffer)) none_left)

  -- a row that is not right decides, and so does one that is not above those before it; another leaves it to the rows after it
  module _ {total : Bool} (left : rows_in arities objects least (count - i) (drop (4 * i) buffer) ≡ total) (more : i < count) where
    abbrev step : (row_right arities objects (row_at i buffer) && leb least (row_number (row_at i buffer))
        && rows_in arities objects (row_number (row_at i buffer) + 1) (count - (i + 1)) (drop (4 * (i + 1)) buffer)) ≡ total
    step = rows_step arities objects count buffer least i more ∙ left

    pub rows_wrong : row_right arities objects (row_at i buffer) ≡ false → false ≡ total
    rows_wrong e = first_fails _ _ _ e ∙ step

    pub rows_low : {n : ℕ} → row_right arities objects (row_at i buffer) ≡ true → n ≡ row_number (row_at i buffer) → n < least → false ≡ total
    rows_low {n} e p h = second_fails _ _ _ e (ap (leb least) (sym p) ∙ lt-leb least n h) ∙ step

    pub rows_again :
        {n : ℕ} → row_right arities objects (row_at i buffer) ≡ true → n ≡ row_number (row_at i buffer) → least ≤ n
        → rows_in arities objects (n + 1) (count - (i + 1)) (drop (4 * (i + 1)) buffer) ≡ total
    rows_again {n} e p h =
        ap (λ (m : ℕ). rows_in arities objects (m + 1) (count - (i + 1)) (drop (4 * (i + 1)) buffer)) p
        ∙ third_decides _ _ _ e (ap (leb least) (sym p) ∙ le-leb least n h) ∙ step
