-- The lines that comparing the conditions of a space with each other gives.
use Rattle.std.specs.Prelude.{List, ◌++◌, map}
use Rattle.laws.specs.Bags.{Bag}
use Rattle.model.specs.Lines.{Line, membership, minimal, exclusions, nestings}

-- all D, all X, all E
unfoldable pub comparison_lines : List Bag → List Line
comparison_lines bags = map membership (minimal bags) ++ (exclusions bags (minimal bags) ++ nestings bags)
