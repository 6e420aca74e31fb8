-- No section past the closing one; that of a space, or the closing one.
use Rattle.prepared.proofs.Analysing.{found_in, section_ready}
use Rattle.prepared.proofs.Lending.{given_filled, analysable_given}
use Rattle.prepared.proofs.Totalling.{preconditions_given}
use Rattle.listing.proofs.Answering.{list_unknown, list_written}
use Rattle.listing.proofs.Listing.{space_listed, closing_listed}
use Rattle.listing.proofs.list_with.Goals as goal

pub returns-then-spaces-number : goal.returns-then-spaces-number
returns-then-spaces-number c =
    list_unknown _ _ _ _ c.prepare-prepared.ensures.spaces_are c.requires.output_bytes_in_bounds c.if-spaces-number.true

-- the tables are filled
pub analyse_space-found-requires : goal.analyse_space-found-requires
analyse_space-found-requires c =
    let pre = c.requires in
    let kept = c.prepare-prepared.auto in
    let given =
    given_filled pre.represented.checked pre.room_for_bags pre.in_bounds c.prepare-prepared.ensures
    (kept.preconditions, (kept.deletes, (kept.adds, kept.counts))) in
    analysable_given given pre.room_for_moves c.if-number-spaces.true

pub write_space_section-length-requires : goal.write_space_section-length-requires
write_space_section-length-requires c =
    let pre = c.requires in
    let kept = c.prepare-prepared.auto in
    let given =
    given_filled pre.represented.checked pre.room_for_bags pre.in_bounds c.prepare-prepared.ensures
    (kept.preconditions, (kept.deletes, (kept.adds, kept.counts))) in
    let h = analysable_given given pre.room_for_moves c.if-number-spaces.true in
    let found = c.analyse_space-found in
    record {
      section_ready = section_ready h found.ensures found.auto.conditions found.auto.starts found.auto.finishes;
      output_bytes_in_bounds = pre.output_bytes_in_bounds;
    }

pub returns-then-number-spaces : goal.returns-then-number-spaces
returns-then-number-spaces c =
    let pre = c.requires in
    let kept = c.prepare-prepared.auto in
    let given =
    given_filled pre.represented.checked pre.room_for_bags pre.in_bounds c.prepare-prepared.ensures
    (kept.preconditions, (kept.deletes, (kept.adds, kept.counts))) in
    let h = analysable_given given pre.room_for_moves c.if-number-spaces.true in
    let found = c.analyse_space-found in
    let here = found_in h found.ensures found.auto.conditions given in
    list_written _ _ _ _ c.prepare-prepared.ensures.spaces_are pre.output_bytes_in_bounds c.if-spaces-number.false _ _
    (space_listed here.of (c.write_space_section-length.ensures _ here))

pub fixed_totals-fixed-requires : goal.fixed_totals-fixed-requires
fixed_totals-fixed-requires c =
    let pre = c.requires in
    let kept = c.prepare-prepared.auto in
    let given =
    given_filled pre.represented.checked pre.room_for_bags pre.in_bounds c.prepare-prepared.ensures
    (kept.preconditions, (kept.deletes, (kept.adds, kept.counts))) in
    λ number here. analysable_given given pre.room_for_moves here

pub write_closing-length-requires : goal.write_closing-length-requires
write_closing-length-requires c =
    let pre = c.requires in
    let kept = c.prepare-prepared.auto in
    let given =
    given_filled pre.represented.checked pre.room_for_bags pre.in_bounds c.prepare-prepared.ensures
    (kept.preconditions, (kept.deletes, (kept.adds, kept.counts))) in
    record {
      represented = pre.represented;
      spaces_of = c.prepare-prepared.ensures.spaces_are;
      fixed_value = c.fixed_totals-fixed.ensures _ _ given;
      precondition_rows = preconditions_given given;
      in_bounds = pre.output_bytes_in_bounds;
    }

pub returns : goal.returns
returns c =
    let reached = c.if-spaces-number.false in
    let spaces_are = c.prepare-prepared.ensures.spaces_are in
    list_written _ _ _ _ spaces_are c.requires.output_bytes_in_bounds reached _ _
    (closing_listed _ spaces_are reached c.if-number-spaces.false c.write_closing-length.ensures)
