-- A table of the bags of all objects, or of all parameters: an atom entered for each of its arguments counts in each argument's own row.
use Prim.Native.Nat.{ℕ, zero, suc, ◌+◌, ◌-◌, ◌*◌, ◌≤◌, ◌<◌}
use native.Mathlib.Nat.{le_refl, mul-suc}
use native.Mathlib.Numerals.{add-one}
use native.Mathlib.Omega.{arith}
use mathlib.Core.Path.{◌≡◌, refl, sym, ap, ◌∙◌, subst}
use mathlib.Core.Bool.{Bool, cond}
use mathlib.Core.List.{List, [], ◌∷◌, ◌++◌, map, flat_map, append-nil, Memᴰ}
use lib.Dec.{eqb}
use lib.ListN.{length, get_or, take, drop, length-set, length-take, length-drop, length-map, take-append-drop}
use lib.Seq.{get_or-set_same, get_or-set_other, get_or-take, get_or-drop, drop-set-lt, ext_get_or, take-add}
use borrow.Author.Tests.{eqb-true, eqb-false}
use Rattle.laws.specs.Lists.{from, up_to}
use Rattle.laws.specs.Bags.{Bag}
use Rattle.laws.proofs.Tests.{by_test}
use Rattle.laws.proofs.Lists.{length_up_to}
use Rattle.laws.proofs.Fronts.{map_up_to_next}
use Rattle.properties.specs.Tables.{row, rows, rows_before}
use Rattle.properties.specs.Tallies.{raised, marked, tallied, tallied_rows, Talliable}
use Rattle.properties.proofs.Rows.{rows_join}
use Rattle.properties.proofs.Tally.{length_marked, marked_here, marked_elsewhere}

-- the row of object o
pub row_of : ℕ → List ℕ → List ℕ
row_of o table = take 60 (drop (60 * o) table)

pub get_d_row_of : (o : ℕ) (table : List ℕ) (c : ℕ) → c < 60 → get_or (row_of o table) c 0 ≡ get_or table (60 * o + c) 0
unfolding row_of
get_d_row_of o table c h = get_or-take 60 (drop (60 * o) table) c 0 h ∙ get_or-drop (60 * o) table c 0

pub length_row_of : (o : ℕ) (table : List ℕ) → 60 * o + 60 ≤ length table → length (row_of o table) ≡ 60
unfolding row_of
length_row_of o table h = length-take 60 (drop (60 * o) table) ∙ omega (arith, length-drop (60 * o) table)

-- one more at a place, and elsewhere
length_raised : (table : List ℕ) (place : ℕ) → length (raised table place) ≡ length table
unfolding raised
length_raised table place = length-set table place (get_or table place 0 + 1)

raised_here : (table : List ℕ) (place : ℕ) → place < length table → get_or (raised table place) place 0 ≡ get_or table place 0 + 1
unfolding raised
raised_here table place h = get_or-set_same table place (get_or table place 0 + 1) 0 h

raised_elsewhere : (table : List ℕ) (place c : ℕ) → (c ≡ place → ⊥) → get_or (raised table place) c 0 ≡ get_or table c 0
unfolding raised
raised_elsewhere table place c h = get_or-set_other table place c (get_or table place 0 + 1) 0 h

-- an object's count is raised in its own row, and in no other
row_raised : (o y c : ℕ) (table : List ℕ) → c < 60 → 60 * y + 60 ≤ length table → 60 * o + 60 ≤ length table
    → row_of o (raised table (60 * y + c)) ≡ marked o y c (row_of o table)
row_raised o y c table hc hy ho =
    ext_get_or 0 (row_of o later) (marked o y c (row_of o table))
    (length_row_of o later (omega (arith, ho, length_raised table (60 * y + c))) ∙ sym (length_marked o y c (row_of o table) ∙ sized))
    (λ i h. at i (omega (arith, h, length_row_of o later (omega (arith, ho, length_raised table (60 * y + c))))))
  where
    later : List ℕ
    later = raised table (60 * y + c)

    sized : length (row_of o table) ≡ 60
    sized = length_row_of o table ho

    at : (i : ℕ) → i < 60 → get_or (row_of o later) i 0 ≡ get_or (marked o y c (row_of o table)) i 0
    at i h =
        get_d_row_of o later i h
        ∙ by_test (eqb i c)
        (λ e. own i h (eqb-true i c e))
        (λ e.
        let differ = eqb-false i c e in
        raised_elsewhere table (60 * y + c) (60 * o + i) (λ p. differ (column i p h))
        ∙ sym (marked_elsewhere o y c (row_of o table) i differ ∙ get_d_row_of o table i h))
      where
        column : (i : ℕ) → 60 * o + i ≡ 60 * y + c → i < 60 → i ≡ c
        column i p h = omega arith

        own : (i : ℕ) → i < 60 → i ≡ c → get_or later (60 * o + i) 0 ≡ get_or (marked o y c (row_of o table)) i 0
        own i h p =
            subst (λ (j : ℕ). get_or later (60 * o + j) 0 ≡ get_or (marked o y c (row_of o table)) j 0) (sym p)
            (by_test (eqb o y)
            (λ e.
            let same = eqb-true o y e in
            subst (λ (q : ℕ). get_or later (60 * q + c) 0 ≡ get_or table (60 * q + c) 0 + 1) (sym same) (raised_here table (60 * y + c) (omega arith))
            ∙ ap (λ (b : Bool). get_or table (60 * o + c) 0 + cond b 1 0) (sym e)
            ∙ ap (λ (n : ℕ). n + cond (eqb o y) 1 0) (sym (get_d_row_of o table c hc))
            ∙ sym (marked_here o y c (row_of o table) (omega (arith, sized))))
            (λ e.
            let differ = eqb-false o y e in
            raised_elsewhere table (60 * y + c) (60 * o + c) (λ q. differ (omega arith))
            ∙ sym (get_d_row_of o table c hc)
            ∙ sym (marked_here o y c (row_of o table) (omega (arith, sized))
            ∙ ap (λ (b : Bool). get_or (row_of o table) c 0 + cond b 1 0) e ∙ omega arith)))

-- ---- an atom entered

-- room for the first argument, and for the others after it
module _ (most first y : ℕ) (ys table : List ℕ) (fits : Talliable most first (y ∷ ys) table) where
  pub enter_here : (60 * y + first < length table) × (get_or table (60 * y + first) 0 < most)
  enter_here =
      let one = fits.one_row in
      let there = fits.rows_there y (Memᴰ.head refl) in
      (omega arith, fits.small y first (Memᴰ.head refl) (le_refl first) (omega arith))

  pub enter_next : Talliable most (suc first) ys (raised table (60 * y + first))
  enter_next = record {
    one_row = let one = fits.one_row in omega arith;
    rows_there =
        λ o m. let there = fits.rows_there o (Memᴰ.tail m) in omega (arith, there, length_raised table (60 * y + first));
    small =
        λ o c m h k. subst (λ (n : ℕ). n < most) (sym (raised_elsewhere table (60 * y + first) (60 * o + c) (other o c h k)))
        (fits.small o c (Memᴰ.tail m) (omega arith) k);
  }
    where
      other : (o c : ℕ) → suc first ≤ c → c < 60 → 60 * o + c ≡ 60 * y + first → ⊥
      other o c h k p = let one = fits.one_row in omega arith

-- the length stays, the row of each argument counts the atom, and rows of no argument stay
pub length_entered : (first : ℕ) (ys table : List ℕ) → length (tallied_rows first ys table) ≡ length table
unfolding tallied_rows
length_entered first [] table = refl
length_entered first (y ∷ ys) table =
    length_entered (suc first) ys (raised table (60 * y + first)) ∙ length_raised table (60 * y + first)

pub row_entered : (most o first : ℕ) (ys table : List ℕ) → Talliable most first ys table → 60 * o + 60 ≤ length table
    → row_of o (tallied_rows first ys table) ≡ tallied o first ys (row_of o table)
unfolding tallied_rows tallied
row_entered most o first [] table fits h = refl
row_entered most o first (y ∷ ys) table fits h =
    row_entered most o (suc first) ys (raised table (60 * y + first)) (enter_next most first y ys table fits)
    (omega (arith, h, length_raised table (60 * y + first)))
    ∙ ap (tallied o (suc first) ys)
    (row_raised o y first table (let one = fits.one_row in omega arith) (fits.rows_there y (Memᴰ.head refl)) h)

pub beyond_entered : (n first : ℕ) (ys table : List ℕ) → first + length ys ≤ 60 → ((y : ℕ) → Memᴰ y ys → y < n)
    → drop (60 * n) (tallied_rows first ys table) ≡ drop (60 * n) table
unfolding tallied_rows raised
beyond_entered n first [] table fits below = refl
beyond_entered n first (y ∷ ys) table fits below =
    beyond_entered n (suc first) ys (raised table (60 * y + first)) (omega arith) (λ z m. below z (Memᴰ.tail m))
    ∙ drop-set-lt (60 * n) table (60 * y + first) (get_or table (60 * y + first) 0 + 1)
    (let h = below y (Memᴰ.head refl) in omega arith)

-- ---- the table

-- What the table holds: in row o, for each o below n, the row of a bag; behind them what stood there.
pub record BagTable (bag : ℕ → Bag) (n : ℕ) (before table : List ℕ) : Type 0 where
  pub kept : length table ≡ length before
  pub rows_are : (o : ℕ) → o < n → row_of o table ≡ row (bag o)
  pub beyond : drop (60 * n) table ≡ drop (60 * n) before

-- the rows one after the other
front_rows : (bag : ℕ → Bag) (table : List ℕ) (m : ℕ) → ((o : ℕ) → o < m → row_of o table ≡ row (bag o))
    → take (60 * m) table ≡ rows (map bag (up_to m))
unfolding rows flat_map up_to from row_of
front_rows bag table zero h = refl
front_rows bag table (suc m) h =
    ap (λ (k : ℕ). take k table) (mul-suc 60 m)
    ∙ take-add (60 * m) 60 table
    ∙ ap (λ (l : List ℕ). l ++ take 60 (drop (60 * m) table)) (front_rows bag table m (λ o k. h o (omega arith)))
    ∙ ap (λ (l : List ℕ). rows (map bag (up_to m)) ++ l) (h m (le_refl (suc m)) ∙ sym (append-nil (row (bag m))))
    ∙ sym (ap rows (map_up_to_next bag m) ∙ rows_join (map bag (up_to m)) (bag m ∷ []))

-- such a table is the rows of the bags, and what stood behind them
pub table_is : (bag : ℕ → Bag) (n : ℕ) (before table : List ℕ) → BagTable bag n before table
    → table ≡ rows_before (map bag (up_to n)) before
unfolding rows_before
table_is bag n before table t =
    sym (take-append-drop (60 * n) table)
    ∙ ap (λ (l : List ℕ). l ++ drop (60 * n) table) (front_rows bag table n t.rows_are)
    ∙ ap (λ (l : List ℕ). rows (map bag (up_to n)) ++ l) t.beyond
    ∙ ap (λ (k : ℕ). rows (map bag (up_to n)) ++ drop (60 * k) before) (sym (length-map (up_to n) bag ∙ length_up_to n))

-- rows before tables that agree behind them
pub rows_behind : (bags : List Bag) (n : ℕ) (before other : List ℕ) → length bags ≡ n → drop (60 * n) before ≡ drop (60 * n) other
    → rows_before bags before ≡ rows_before bags other
unfolding rows_before
rows_behind bags n before other e p =
    ap (λ (k : ℕ). rows bags ++ drop (60 * k) before) e
    ∙ ap (λ (l : List ℕ). rows bags ++ l) p
    ∙ ap (λ (k : ℕ). rows bags ++ drop (60 * k) other) (sym e)

-- ---- argument by argument

-- What is left: the first n of these arguments, entered from `first` on in the table so far, make the whole.
pub record Left (most first n : ℕ) (ys table whole : List ℕ) : Type 0 where
  pub fits : Talliable most first (take n ys) table
  pub rest : tallied_rows first (take n ys) table ≡ whole

-- at first all of them are left
pub left_all : {most first n : ℕ} {ys table : List ℕ} → Talliable most first (take n ys) table
    → Left most first n ys table (tallied_rows first (take n ys) table)
left_all fits = record { fits = fits; rest = refl }

module _ {most first n y : ℕ} {ys table whole : List ℕ} (left : Left most first n (y ∷ ys) table whole) (some : 1 ≤ n) where
  parted : take n (y ∷ ys) ≡ y ∷ take (n - 1) ys
  parted = ap (λ (k : ℕ). take k (y ∷ ys)) (one_less some)
    where
      one_less : {k : ℕ} → 1 ≤ k → k ≡ suc (k - 1)
      one_less h = omega arith

  fits_parted : Talliable most first (y ∷ take (n - 1) ys) table
  fits_parted = subst (λ (l : List ℕ). Talliable most first l table) parted left.fits

  -- the next argument has room
  pub left_here : (60 * y + first < length table) × (get_or table (60 * y + first) 0 < most)
  left_here = enter_here most first y (take (n - 1) ys) table fits_parted

  -- and is entered
  pub left_next : {next : ℕ} → next ≡ first + 1 → {later : List ℕ} → later ≡ raised table (60 * y + first) → Left most next (n - 1) ys later whole
  unfolding tallied_rows
  left_next {next} e {later} l =
      let step : next ≡ suc first = e ∙ add-one first in
      record {
        fits = rw (step, l) (enter_next most first y (take (n - 1) ys) table fits_parted);
        rest = rw (step, l) (sym (ap (λ (zs : List ℕ). tallied_rows first zs table) parted) ∙ left.rest);
      }

-- the place of the third argument
pub two_on : (first : ℕ) → first + 2 ≡ first + 1 + 1
two_on first = omega arith

-- after the last the table is the whole
pub left_end : {most first n : ℕ} {ys table whole : List ℕ} → Left most first n ys table whole → n ≤ 0 → table ≡ whole
unfolding tallied_rows
left_end {first = first} {ys = ys} {table = table} left h = ap (λ (k : ℕ). tallied_rows first (take k ys) table) (none h) ∙ left.rest
  where
    none : {k : ℕ} → k ≤ 0 → 0 ≡ k
    none p = omega arith
