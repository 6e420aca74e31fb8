-- All `D` lines, and all `X` and `E` lines into the rest of the buffer.
use Rattle.sections.proofs.ComparisonLines.{indices_inside, masks_long, masks_there, comparison_parts}
use Rattle.text.proofs.Writing.{first_fits, rest_inside, second_fits, both}
use Rattle.sections.proofs.comparisons.write_comparisons.Goals as goal

pub slice_bounds-write_memberships-end : goal.slice_bounds-write_memberships-end
slice_bounds-write_memberships-end c = indices_inside _ _ _ c.requires.1 c.minimal_of-found.ensures

pub write_memberships-at-requires : goal.write_memberships-at-requires
write_memberships-at-requires c =
    let pre = c.requires in
    first_fits (comparison_parts _ _ _ pre.1 c.minimal_of-found.ensures) pre.2

pub slice_bounds-write_pairs-count : goal.slice_bounds-write_pairs-count
slice_bounds-write_pairs-count c =
    let pre = c.requires in
    rest_inside (comparison_parts _ _ _ pre.1 c.minimal_of-found.ensures) pre.2 c.write_memberships-at.ensures

pub slice_bounds-write_pairs-start : goal.slice_bounds-write_pairs-start
slice_bounds-write_pairs-start c =
    let pre = c.requires in
    rest_inside (comparison_parts _ _ _ pre.1 c.minimal_of-found.ensures) pre.2 c.write_memberships-at.ensures

pub slice_bounds-write_pairs-end-3 : goal.slice_bounds-write_pairs-end-3
slice_bounds-write_pairs-end-3 c = indices_inside _ _ _ c.requires.1 c.minimal_of-found.ensures

pub write_pairs-m-requires : goal.write_pairs-m-requires
write_pairs-m-requires c =
    let pre = c.requires in
    let found = c.minimal_of-found.ensures in
    let room = second_fits (comparison_parts _ _ _ pre.1 found) pre.2 c.write_memberships-at.ensures in
    (masks_long _ _ _ pre.1 found, masks_there _ _ _ pre.1 found, pre.1, room)

pub returns : goal.returns
returns c =
    let pre = c.requires in
    both (comparison_parts _ _ _ pre.1 c.minimal_of-found.ensures) pre.2 c.write_memberships-at.ensures
    c.write_pairs-m.ensures
