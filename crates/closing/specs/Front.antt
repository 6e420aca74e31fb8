-- The first lines of the closing section: all F, all C.
use mathlib.Core.List.{List, ◌++◌, flat_map}
use Rattle.std.specs.Prelude.{length}
use Rattle.laws.specs.Lists.{up_to}
use Rattle.model.specs.Card.{Task}
use Rattle.model.specs.Analysis.{analysis}
use Rattle.model.specs.Lines.{Line, totals, ceilings}

unfoldable pub front_lines : Task → List Line
front_lines t = flat_map (totals t (analysis t)) (up_to (length t.arities)) ++ flat_map (ceilings t) (up_to (length t.arities))
