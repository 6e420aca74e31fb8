-- Tables that begin with rows: a row written behind others, the bags read back by row number, and the rows in sequence.
use Prim.Native.Nat.{ℕ, zero, suc, ◌+◌, ◌-◌, ◌*◌, ◌≤◌, ◌<◌}
use native.Mathlib.Nat.{mul-zero}
use native.Mathlib.Omega.{arith}
use mathlib.Core.Path.{◌≡◌, refl, sym, ap, ◌∙◌, subst}
use mathlib.Core.List.Memᴰ
use mathlib.Core.List.{List, [], ◌∷◌, ◌++◌, map, flat_map, append_assoc, append-nil, Memᴰ}
use mathlib.Core.Logic.{⊎_elim}
use lib.ListN.{length, get_or, take, drop, length-append, length-drop, length-map, get_or-append}
use lib.Seq.{paste, take_at, drop_at, drop-drop, get_or-append-add, take_all}
use Rattle.laws.specs.Bags.{Bag}
use Rattle.laws.specs.Lists.{up_to}
use Rattle.laws.proofs.Lists.{flat_map_append, mem_get_d, length_up_to, get_d_up_to}
use Rattle.laws.proofs.Mapped.{get_d_map}
use Rattle.laws.proofs.Places.{each_place}
use Rattle.laws.proofs.Bags.{bag_ext}
use Rattle.laws.proofs.Walks.{left, left_all, left_one, left_none}
use Rattle.properties.specs.Tables.{stride, row, rows, rows_before, bag_at, bags_in, HasRow, HasRows}
use Rattle.properties.proofs.Rows.{Narrow, length_row, get_d_row, length_rows, length_bag_at, get_d_bag_at}

-- ---- bags of one length

abbrev pub Sized : ℕ → List Bag → Type 0
Sized size bags = (b : Bag) → Memᴰ b bags → length b ≡ size

pub sized_none : (size : ℕ) → Sized size []
sized_none size b m = absurd (Memᴰ.not-nil m)

pub sized_next : (size : ℕ) (bags : List Bag) (b : Bag) → Sized size bags → length b ≡ size → Sized size (bags ++ (b ∷ []))
sized_next size bags b h k x m =
    ⊎_elim (h x) (λ j. ap length (Memᴰ.eq_of_singleton j) ∙ k) (Memᴰ.append_cases bags m)

pub sized_narrow : (size : ℕ) (bags : List Bag) → size ≤ stride → Sized size bags → Narrow bags
sized_narrow size bags k h b m = omega (arith, h b m)

-- no bag longer than a row
pub narrow_none : Narrow []
narrow_none b m = absurd (Memᴰ.not-nil m)

pub narrow_next : (bags : List Bag) (b : Bag) → Narrow bags → length b ≤ stride → Narrow (bags ++ (b ∷ []))
narrow_next bags b h k x m =
    ⊎_elim (h x) (λ j. subst (λ (y : Bag). length y ≤ stride) (sym (Memᴰ.eq_of_singleton j)) k) (Memᴰ.append_cases bags m)

-- ---- rows written one behind the other

pub rows_next : (bags : List Bag) (b : Bag) → rows (bags ++ (b ∷ [])) ≡ rows bags ++ row b
unfolding rows flat_map
rows_next bags b = flat_map_append row bags (b ∷ []) ∙ ap (λ (l : List ℕ). flat_map row bags ++ l) (append-nil (row b))

-- nothing written
pub rows_before_none : (before : List ℕ) → before ≡ rows_before [] before
unfolding rows_before rows flat_map
rows_before_none before = ap (λ (n : ℕ). drop n before) (sym (mul-zero stride))

-- the table keeps its length
pub length_rows_before : (bags : List Bag) (before : List ℕ) → Narrow bags → stride * length bags ≤ length before
    → length (rows_before bags before) ≡ length before
unfolding rows_before
length_rows_before bags before h k =
    length-append (rows bags) (drop (stride * length bags) before)
    ∙ omega (arith, length_rows bags h, length-drop (stride * length bags) before)

-- one row more, pasted behind the others
pub rows_before_next : (bags : List Bag) (b : Bag) (before : List ℕ) (at : ℕ) → Narrow bags → length b ≤ stride → at ≡ stride * length bags
    → paste (rows_before bags before) at (row b) stride ≡ rows_before (bags ++ (b ∷ [])) before
unfolding rows_before
rows_before_next bags b before at h k e =
    let sized : length (rows bags) ≡ at = length_rows bags h ∙ sym e in
    ap (λ (l : List ℕ). l ++ take stride (row b) ++ drop (at + stride) (rows bags ++ drop (stride * length bags) before))
    (take_at (rows bags) (drop (stride * length bags) before) at sized)
    ∙ ap (λ (l : List ℕ). rows bags ++ l ++ drop (at + stride) (rows bags ++ drop (stride * length bags) before))
    (take_all stride (row b) (omega (arith, length_row b k)))
    ∙ ap (λ (l : List ℕ). rows bags ++ row b ++ l)
    (sym (drop-drop stride at (rows bags ++ drop (stride * length bags) before))
    ∙ ap (drop stride) (drop_at (rows bags) (drop (stride * length bags) before) at sized)
    ∙ drop-drop stride (stride * length bags) before
    ∙ ap (λ (n : ℕ). drop n before) (one_more (length bags) (length-append bags (b ∷ []))))
    ∙ ap (λ (l : List ℕ). l ++ drop (stride * length (bags ++ (b ∷ []))) before) (sym (rows_next bags b))
  where
    one_more : (m : ℕ) {n : ℕ} → n ≡ m + 1 → stride * m + stride ≡ stride * n
    one_more m p = omega arith

-- Rows kept at the front of a table, which is as long as it was.
pub record Kept (bags : List Bag) (before now : List ℕ) : Type 0 where
  pub narrow : Narrow bags
  pub is : now ≡ rows_before bags before
  pub long : length now ≡ length before

pub kept_none : (before : List ℕ) → Kept [] before before
kept_none before = record { narrow = narrow_none; is = rows_before_none before; long = refl }

pub kept_next : (bags : List Bag) (b : Bag) (before now last : List ℕ) (at : ℕ) → Kept bags before now → length b ≤ stride
    → at ≡ stride * length bags → last ≡ paste now at (row b) stride → length last ≡ length now → Kept (bags ++ (b ∷ [])) before last
kept_next bags b before now last at h k e p l =
    record {
      narrow = narrow_next bags b h.narrow k;
      is = p ∙ ap (λ (t : List ℕ). paste t at (row b) stride) h.is ∙ rows_before_next bags b before at h.narrow k e;
      long = l ∙ h.long;
    }

-- ---- rows read back

-- a count of a row of a table that begins with rows
pub row_count : (bags : List Bag) (rest : List ℕ) (i c : ℕ) → Narrow bags → i < length bags → c < stride
    → get_or (rows bags ++ rest) (stride * i + c) 0 ≡ get_or (get_or bags i []) c 0
unfolding rows flat_map
row_count [] rest i c h k l = absurd (omega arith)
row_count (b ∷ bags) rest zero c h k l =
    let sized = length_row b (h b (Memᴰ.head refl)) in
    ap (λ (t : List ℕ). get_or t (stride * 0 + c) 0) (append_assoc (row b) (flat_map row bags) rest)
    ∙ ap (λ (n : ℕ). get_or (row b ++ (flat_map row bags ++ rest)) n 0) (first_row c)
    ∙ get_or-append (row b) (flat_map row bags ++ rest) 0 c (omega arith)
    ∙ get_d_row b c
  where
    first_row : (c : ℕ) → stride * 0 + c ≡ c
    first_row c = omega arith
row_count (b ∷ bags) rest (suc i) c h k l =
    ap (λ (t : List ℕ). get_or t (stride * suc i + c) 0) (append_assoc (row b) (flat_map row bags) rest)
    ∙ ap (λ (n : ℕ). get_or (row b ++ (flat_map row bags ++ rest)) n 0) (next_row (length_row b (h b (Memᴰ.head refl))))
    ∙ get_or-append-add (row b) (flat_map row bags ++ rest) (stride * i + c) 0
    ∙ row_count bags rest i c (λ x m. h x (Memᴰ.tail m)) (omega arith) l
  where
    next_row : {n : ℕ} → n ≡ stride → stride * suc i + c ≡ n + (stride * i + c)
    next_row e = omega arith

module _ (size : ℕ) (narrow : size ≤ stride) (bags : List Bag) (sized : Sized size bags) where
  -- the bag in a row of such a table is the bag that was written there
  pub row_bag : (rest : List ℕ) (i : ℕ) → i < length bags → bag_at size (rows bags ++ rest) i ≡ get_or bags i []
  row_bag rest i l =
      let h = sized_narrow size bags narrow sized in
      let whole : HasRow size i (rows bags ++ rest) = record {
        inside = omega (arith, length-append (rows bags) rest, length_rows bags h);
      } in
      bag_ext size (bag_at size (rows bags ++ rest) i) (get_or bags i []) (length_bag_at whole) (sized (get_or bags i []) (mem_get_d bags i [] l))
      (λ c m. get_d_bag_at whole c m ∙ row_count bags rest i c h l (omega arith))

  pub bag_held : (before : List ℕ) (i : ℕ) → i < length bags → bag_at size (rows_before bags before) i ≡ get_or bags i []
  unfolding rows_before
  bag_held before i l = row_bag (drop (stride * length bags) before) i l

  -- and the bags are those that were written
  pub bags_of_rows : (rest : List ℕ) → bags_in size (length bags) (rows bags ++ rest) ≡ bags
  unfolding bags_in up_to
  bags_of_rows rest = each_place (bag_at size (rows bags ++ rest)) bags [] (row_bag rest)

  pub rows_before_back : (before : List ℕ) → bags_in size (length bags) (rows_before bags before) ≡ bags
  unfolding rows_before
  rows_before_back before = bags_of_rows (drop (stride * length bags) before)

-- ---- the rows of a table in sequence

-- the bags of the rows from i on
unfoldable pub bags_from : ℕ → ℕ → List ℕ → ℕ → List Bag
bags_from size count table i = map (bag_at size table) (left i count)

module _ (size count : ℕ) (table : List ℕ) where
  pub length_bags_in : length (bags_in size count table) ≡ count
  unfolding bags_in
  length_bags_in = length-map (up_to count) (bag_at size table) ∙ length_up_to count

  -- the bag with an index is that of its row
  pub get_d_bags_in : (i : ℕ) → i < count → get_or (bags_in size count table) i [] ≡ bag_at size table i
  unfolding bags_in
  get_d_bags_in i h =
      get_d_map (bag_at size table) (up_to count) i 0 [] (rw (length_up_to count) h) ∙ ap (bag_at size table) (get_d_up_to count i 0 h)

  -- at the start all rows are left
  pub rows_start : bags_in size count table ≡ bags_from size count table 0
  unfolding bags_in bags_from
  rows_start = ap (map (bag_at size table)) (sym (left_all count))

  -- one row after the other
  pub rows_left : (i : ℕ) → i < count → bags_from size count table i ≡ bag_at size table i ∷ bags_from size count table (i + 1)
  unfolding bags_from
  rows_left i h = ap (map (bag_at size table)) (left_one i count h)

  -- at the end none
  pub rows_end : (i : ℕ) → count ≤ i → bags_from size count table i ≡ []
  unfolding bags_from
  rows_end i h = ap (map (bag_at size table)) (left_none i count h)

  -- each of the rows is inside the table
  pub has_row : HasRows size count table → (i : ℕ) → i < count → HasRow size i table
  has_row h i k = record { inside = omega arith }

-- ---- a row lent as a part of its table

abbrev pub lent : ℕ → List ℕ → ℕ → List ℕ
lent size table i = take (stride * i + size - stride * i) (drop (stride * i) table)

-- is its bag
pub row_lent : (size i : ℕ) (table : List ℕ) → bag_at size table i ≡ lent size table i
unfolding bag_at
row_lent size i table = ap (λ (n : ℕ). take n (drop (stride * i) table)) (behind (stride * i) size)
  where
    behind : (a b : ℕ) → b ≡ a + b - a
    behind a b = omega arith
