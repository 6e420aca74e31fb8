use Rattle.text.proofs.Writing.{first_fits}
use Rattle.text.proofs.LineTexts.{colon_first, numbers_fit, end_inside, last_written}
use Rattle.text.proofs.NumberRows.{room_as_they_are, written_as_they_are}
use Rattle.text.proofs.rows.write_last_counts.Goals as goal

pub write_mark-at-requires : goal.write_mark-at-requires
write_mark-at-requires c = first_fits (colon_first c.args.counts.now) c.requires

pub write_numbers-at-requires : goal.write_numbers-at-requires
write_numbers-at-requires c =
    room_as_they_are c.args.counts.now (numbers_fit c.args.counts.now c.requires c.write_mark-at.ensures)

pub bounds-out-at : goal.bounds-out-at
bounds-out-at c =
    end_inside c.args.counts.now c.requires c.write_mark-at.ensures (written_as_they_are c.args.counts.now c.write_numbers-at.ensures)

pub returns : goal.returns
returns c =
    last_written c.args.counts.now c.requires c.write_mark-at.ensures (written_as_they_are c.args.counts.now c.write_numbers-at.ensures)
