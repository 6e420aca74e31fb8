-- The numbers of a line: each follows one blank.
use Rattle.std.specs.Prelude.{ℕ}
use mathlib.Core.List.{List, [], ◌∷◌, ◌++◌, map, flat_map}
use Rattle.model.specs.Text.{decimal}
use Rattle.text.specs.Letters.{blank, colon_byte, newline}

unfoldable pub numbers : List ℕ → List ℕ
numbers ns = flat_map (λ item. blank ∷ item) (map decimal ns)

-- a blank and a colon, the numbers, and the line's end
unfoldable pub last_numbers : List ℕ → List ℕ
last_numbers ns = blank ∷ colon_byte ∷ (numbers ns ++ (newline ∷ []))
