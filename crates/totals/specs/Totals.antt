-- The totals that properties give, entered space by space in a table: for each property 0, or its total and one.
use Rattle.std.specs.Prelude.{ℕ, ◌*◌, ◌≤◌, ◌<◌, ◌≡◌, true, length, get_or, set, replicate}
use mathlib.Core.List.{List, map, foldl}
use Rattle.laws.specs.Bags.{Bag}
use Rattle.laws.specs.Lists.{distinct}
use Rattle.model.specs.Analysis.{Analysis}
use Rattle.model.specs.Lines.{count_of, one_number}
use Rattle.properties.specs.Tables.{stride, HasRows}
use Rattle.closing.specs.Fixed.{first_and_one}

-- what a property gives whose counts in all conditions of its space are these: if they are one number, that many times the members
unfoldable pub given_by : ℕ → List ℕ → ℕ
given_by members counts = first_and_one (map (λ n. n * members) (one_number counts))

-- a table in which the space with these properties, conditions and so many members has entered what each of its properties gives
unfoldable pub entered : List ℕ → List Bag → ℕ → List ℕ → List ℕ
entered own bags members fixed = foldl (λ f c. set f c (given_by members (map (count_of own c) bags))) fixed own

-- the table after the spaces of these analyses, one after the other
unfoldable pub totals_of : List Analysis → List ℕ
totals_of analyses =
    foldl
    (λ fixed a. entered a.space.properties a.conditions (length a.space.members) fixed)
    (replicate stride 0)
    analyses

-- what entering a space's totals asks: a table of its conditions, its properties apart and each with a place, and at most 64 members
pub record TotalsEnterable (own : List ℕ) (count members : ℕ) (table fixed : List ℕ) : Type 0 where
  pub rows_there : HasRows (length own) count table
  pub apart : distinct own ≡ true
  pub places_there : (j : ℕ) → j < length own → get_or own j 0 < length fixed
  pub few_members : members ≤ 64
