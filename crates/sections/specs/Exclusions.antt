-- The X lines of a list of indices, by masks of the conditions that contain each.
use Rattle.std.specs.Prelude.{ℕ, Bool, List, [], ◌∷◌, ◌++◌, map, eqb, get_or}
use Rattle.laws.specs.Lists.{keep}
use Rattle.masks.specs.Sets.{common_of}
use Rattle.model.specs.Lines.{Line, exclusion}

-- no condition contains both
unfoldable pub excluded_by : List ℕ → ℕ → ℕ → Bool
excluded_by masks i j = eqb (common_of (get_or masks i 0) (get_or masks j 0)) 0

-- as the model's exclusions, by these masks
unfoldable pub exclusions_by : List ℕ → List ℕ → List Line
exclusions_by masks [] = []
exclusions_by masks (i ∷ later) = map (exclusion i) (keep (excluded_by masks i) later) ++ exclusions_by masks later
