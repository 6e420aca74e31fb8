-- The M lines of a space, from the arities of its properties, and the columns of a table.
use Rattle.std.specs.Prelude.{ℕ, ◌+◌, ◌*◌, List, [], ◌∷◌, map, leb, get_or}
use Rattle.laws.specs.Bags.{Bag}
use Rattle.laws.specs.Lists.{keep, up_to}
use Rattle.model.specs.Lines.{Line, limit, largest, count_of}
use Rattle.properties.specs.Tables.{stride}

-- as the model's limits, with the arity of each property, by number, given as a list
unfoldable pub limits_by : List ℕ → List ℕ → List Bag → List Line
limits_by arities properties [] = []
limits_by arities properties (b ∷ bags) =
    map
    (λ c. limit c (largest (map (count_of properties c) (b ∷ bags))))
    (keep (λ c. leb 2 (get_or arities c 0)) properties)

-- the counts in a column of the first rows
unfoldable pub column_of : List ℕ → ℕ → ℕ → List ℕ
column_of table count column = map (λ i. get_or table (stride * i + column) 0) (up_to count)
