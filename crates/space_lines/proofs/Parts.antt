-- The text of a section part by part: the S line, all T, all M, and all D with all X and all E.
use Prim.Native.Nat.{ℕ}
use mathlib.Core.List.{List, ◌++◌, map}
use Rattle.laws.specs.Bags.{Bag}
use Rattle.laws.proofs.Lists.{flat_map_append}
use Rattle.model.specs.Lines.{Line, space, state}
use Rattle.model.specs.Spaces.{Kind}
use Rattle.model.specs.Text.{line_text, text}
use Rattle.sections.specs.Comparisons.{comparison_lines}
use Rattle.sections.specs.Limits.{limits_by}
use Rattle.sections.proofs.LinesLeft.{first_line}
use Rattle.text.proofs.Writing.{Begins}
use Rattle.space_lines.specs.OwnLines.{invariant_lines, condition_lines, own_lines}

-- the text of lines and of further lines
text_parts : (lines more : List Line) → Begins (text (lines ++ more)) (text lines) (text more)
unfolding text
text_parts lines more = record { path = flat_map_append line_text lines more }

module _ (arities own : List ℕ) (bags : List Bag) where
  pub limits_first : Begins (text (invariant_lines arities own bags)) (text (limits_by arities own bags))
      (text (comparison_lines bags))
  unfolding invariant_lines
  limits_first = text_parts (limits_by arities own bags) (comparison_lines bags)

  pub states_first : Begins (text (condition_lines arities own bags)) (text (map state bags)) (text (invariant_lines arities own bags))
  unfolding condition_lines
  states_first = text_parts (map state bags) (invariant_lines arities own bags)

  pub space_first : (number : ℕ) (kind : Kind) (members : List ℕ)
      → Begins (text (own_lines number kind own members arities bags)) (line_text (space number kind own members)) (text (condition_lines arities own bags))
  unfolding own_lines
  space_first number kind members = first_line (space number kind own members) (condition_lines arities own bags)
