-- All `X` lines, and all `E` lines into the rest of the buffer.
use Rattle.sections.proofs.ComparisonLines.{exclusions_first}
use Rattle.text.proofs.Writing.{first_fits, rest_inside, second_fits, both}
use Rattle.sections.proofs.comparisons.write_pairs.Goals as goal

pub write_exclusions-at-requires : goal.write_exclusions-at-requires
write_exclusions-at-requires c = let pre = c.requires in (pre.1, first_fits (exclusions_first _ _ _) pre.3)

pub slice_bounds-write_nestings-count : goal.slice_bounds-write_nestings-count
slice_bounds-write_nestings-count c = rest_inside (exclusions_first _ _ _) c.requires.3 c.write_exclusions-at.ensures

pub slice_bounds-write_nestings-start : goal.slice_bounds-write_nestings-start
slice_bounds-write_nestings-start c = rest_inside (exclusions_first _ _ _) c.requires.3 c.write_exclusions-at.ensures

pub write_nestings-n-requires : goal.write_nestings-n-requires
write_nestings-n-requires c =
    let pre = c.requires in
    (pre.0, pre.2, second_fits (exclusions_first _ _ _) pre.3 c.write_exclusions-at.ensures)

pub returns : goal.returns
returns c = both (exclusions_first _ _ _) c.requires.3 c.write_exclusions-at.ensures c.write_nestings-n.ensures
