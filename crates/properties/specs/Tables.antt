-- How the code keeps bags: tables of rows of 60 counts, one row a bag, 0 in the places past its properties.
use Rattle.std.specs.Prelude.{ℕ, ◌+◌, ◌-◌, ◌*◌, ◌≤◌, length, take, drop, replicate}
use mathlib.Core.List.{List, ◌++◌, map, flat_map}
use Rattle.laws.specs.Bags.{Bag}
use Rattle.laws.specs.Lists.{up_to}

-- the width of a row: the most properties of a task, 20 predicates of 3 positions
abbrev pub stride : ℕ
stride = 60

unfoldable pub row : Bag → List ℕ
row b = b ++ replicate (stride - length b) 0

-- rows one after the other
unfoldable pub rows : List Bag → List ℕ
rows bags = flat_map row bags

-- a table with rows written from its start, and what stood behind them
unfoldable pub rows_before : List Bag → List ℕ → List ℕ
rows_before bags before = rows bags ++ drop (stride * length bags) before

-- read back: the bag over so many properties in a row of a table
unfoldable pub bag_at : ℕ → List ℕ → ℕ → Bag
bag_at size table i = take size (drop (stride * i) table)

-- the bags of the first rows
unfoldable pub bags_in : ℕ → ℕ → List ℕ → List Bag
bags_in size count table = map (bag_at size table) (up_to count)

-- The table has a row with this index.
pub record HasRow (size i : ℕ) (table : List ℕ) : Type 0 where
  pub inside : stride * i + size ≤ length table

-- The table has so many rows, and the bags are no longer than they.
pub record HasRows (size count : ℕ) (table : List ℕ) : Type 0 where
  pub narrow : size ≤ stride
  pub long : stride * count ≤ length table
