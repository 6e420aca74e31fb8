-- What one pass over an atom's arguments does to the counts of a bag, and to a table of the bags of all objects or parameters.
use Rattle.std.specs.Prelude.{ℕ, suc, ◌+◌, ◌*◌, ◌≤◌, ◌<◌, cond, eqb, length, get_or, set}
use mathlib.Core.List.{List, [], ◌∷◌, Memᴰ}
use Rattle.properties.specs.Tables.{stride}

-- one more at a place
unfoldable pub raised : List ℕ → ℕ → List ℕ
raised counts place = set counts place (get_or counts place 0 + 1)

-- one more at a place if the argument there is x
unfoldable pub marked : ℕ → ℕ → ℕ → List ℕ → List ℕ
marked x argument place counts = cond (eqb x argument) (raised counts place) counts

-- the bag of x after an atom with these arguments, the number of whose first property is `first`
unfoldable pub tallied : ℕ → ℕ → List ℕ → List ℕ → List ℕ
tallied x first [] bag = bag
tallied x first (argument ∷ arguments) bag = tallied x (suc first) arguments (marked x argument first bag)

-- a table of the bags of all arguments (objects or parameters) after such an atom: each argument counts it in its own row
unfoldable pub tallied_rows : ℕ → List ℕ → List ℕ → List ℕ
tallied_rows first [] table = table
tallied_rows first (argument ∷ arguments) table = tallied_rows (suc first) arguments (raised table (stride * argument + first))

-- the arguments can be entered: their rows are in the table, and from the first property on each count is below the most that it can be
pub record Talliable (most first : ℕ) (arguments table : List ℕ) : Type 0 where
  pub one_row : first + length arguments ≤ stride
  pub rows_there : (o : ℕ) → Memᴰ o arguments → stride * o + stride ≤ length table
  pub small : (o c : ℕ) → Memᴰ o arguments → first ≤ c → c < stride → get_or table (stride * o + c) 0 < most
