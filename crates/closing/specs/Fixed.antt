-- The totals that properties give, in a table: for each property 0, or its total and one.
use Rattle.std.specs.Prelude.{ℕ, zero, suc, List, [], ◌∷◌, map, length, get_or, take, drop}
use Rattle.laws.specs.Lists.{sum, up_to, padded}
use Rattle.model.specs.Card.{Task}
use Rattle.model.specs.Transitions.{properties}
use Rattle.model.specs.Analysis.{Analysis, analysis}
use Rattle.model.specs.Lines.{Line, total, totals_by}
use Rattle.properties.specs.Tables.{stride}

-- the first number of a list and one, 0 for none
unfoldable pub first_and_one : List ℕ → ℕ
first_and_one [] = 0
first_and_one (n ∷ ns) = suc n

unfoldable pub fixed_of : List Analysis → ℕ → ℕ
fixed_of analyses c = first_and_one (totals_by analyses c)

-- the table of a task: for each property 0, or its total and one; 0 past the properties
unfoldable pub fixed_table : Task → List ℕ
fixed_table t = padded stride 0 (map (fixed_of (analysis t)) (up_to (length (properties t))))

-- the first number that is not 0, 0 for none
unfoldable pub first_some : List ℕ → ℕ
first_some [] = 0
first_some (zero ∷ ns) = first_some ns
first_some (suc n ∷ ns) = suc n

-- the F line that such a number stands for
unfoldable pub total_line : ℕ → ℕ → List Line
total_line p zero = []
total_line p (suc n) = total p n ∷ []

-- the F line of a predicate, from the entries of its positions
unfoldable pub total_found : List ℕ → List ℕ → ℕ → List Line
total_found arities fixed p = total_line p (first_some (take (get_or arities p 0) (drop (sum (take p arities)) fixed)))
