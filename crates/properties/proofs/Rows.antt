-- Rows of 60 counts: their length and counts, when a list is the row of a bag, and rows one after the other.
use Prim.Native.Nat.{ℕ, zero, suc, ◌+◌, ◌-◌, ◌*◌, ◌≤◌, ◌<◌}
use native.Mathlib.Nat.{mul-suc}
use native.Mathlib.Omega.{arith}
use mathlib.Core.Path.{◌≡◌, refl, sym, ◌∙◌, subst}
use mathlib.Core.List.{List, [], ◌∷◌, ◌++◌, flat_map, Memᴰ}
use lib.ListN.{length, get_or, drop, replicate, length-append, length-drop, length-replicate}
use lib.Seq.{ext_get_or, length-take-le, get_or-take, get_or-drop}
use Rattle.laws.specs.Bags.{Bag}
use Rattle.laws.proofs.Lists.{flat_map_append}
use Rattle.properties.specs.Tables.{stride, row, rows, bag_at, HasRow}

-- zeros behind a list of numbers change no number
pub get_d_zeros : (n i : ℕ) → ◌≡◌ {A = ℕ} (get_or (replicate n 0) i 0) 0
get_d_zeros zero i = refl
get_d_zeros (suc n) zero = refl
get_d_zeros (suc n) (suc i) = get_d_zeros n i

get_d_behind : (b : Bag) (n i : ℕ) → get_or (b ++ replicate n 0) i 0 ≡ get_or b i 0
get_d_behind [] n i = get_d_zeros n i
get_d_behind (x ∷ b) n zero = refl
get_d_behind (x ∷ b) n (suc i) = get_d_behind b n i

-- a row has 60 counts, those of its bag
pub length_row : (b : Bag) → length b ≤ 60 → length (row b) ≡ 60
unfolding row
length_row b h = length-append b (replicate (60 - length b) 0) ∙ omega (arith, length-replicate {A = ℕ} (60 - length b) 0)

pub get_d_row : (b : Bag) (i : ℕ) → get_or (row b) i 0 ≡ get_or b i 0
unfolding row
get_d_row b i = get_d_behind b (60 - length b) i

-- 60 numbers that are the counts of a bag are its row
pub row_ext : (l : List ℕ) (b : Bag) → length l ≡ 60 → length b ≤ 60 → ((i : ℕ) → i < 60 → get_or l i 0 ≡ get_or b i 0) → l ≡ row b
row_ext l b e h same =
    ext_get_or 0 l (row b) (e ∙ sym (length_row b h)) (λ i k. same i (subst (λ (n : ℕ). i < n) e k) ∙ sym (get_d_row b i))

-- no bag is over more than 60 properties
abbrev pub Narrow : List Bag → Type 0
Narrow bags = (b : Bag) → Memᴰ b bags → length b ≤ 60

-- rows are 60 counts each
pub length_rows : (bags : List Bag) → Narrow bags → length (rows bags) ≡ 60 * length bags
unfolding rows flat_map
length_rows [] narrow = refl
length_rows (b ∷ bags) narrow =
    length-append (row b) (flat_map row bags)
    ∙ omega (
      arith,
      length_row b (narrow b (Memᴰ.head refl)),
      length_rows bags (λ c m. narrow c (Memᴰ.tail m)),
      mul-suc 60 (length bags),
    )

pub rows_join : (xs ys : List Bag) → rows (xs ++ ys) ≡ rows xs ++ rows ys
unfolding rows
rows_join xs ys = flat_map_append row xs ys

-- the bag read back from a row inside a table: so many counts, those of the row
module _ {size i : ℕ} {table : List ℕ} (h : HasRow size i table) where
  pub length_bag_at : length (bag_at size table i) ≡ size
  unfolding bag_at
  length_bag_at = length-take-le size (drop (stride * i) table) (omega (arith, length-drop (stride * i) table))

  pub get_d_bag_at : (k : ℕ) → k < size → get_or (bag_at size table i) k 0 ≡ get_or table (stride * i + k) 0
  unfolding bag_at
  get_d_bag_at k l = get_or-take size (drop (stride * i) table) k 0 l ∙ get_or-drop (stride * i) table k 0
