-- The E lines of the first conditions, by masks of the conditions that contain each.
use Rattle.std.specs.Prelude.{ℕ, not, get_or}
use mathlib.Core.List.{List, map, flat_map}
use Rattle.laws.specs.Lists.{keep, up_to}
use Rattle.masks.specs.Sets.{is_member, members_of}
use Rattle.model.specs.Lines.{Line, nesting}

-- those of condition i: with each condition that contains it and that it does not contain
unfoldable pub nestings_of : List ℕ → ℕ → List Line
nestings_of masks i = map (nesting i) (keep (λ j. not (is_member (get_or masks j 0) i)) (members_of (get_or masks i 0)))

-- as the model's nestings, by these masks
unfoldable pub nestings_by : List ℕ → ℕ → List Line
nestings_by masks count = flat_map (nestings_of masks) (up_to count)
