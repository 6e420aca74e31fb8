-- What stands before the properties, and these in the rest of the buffer.
use Rattle.text.proofs.Writing.{first_fits, second_fits, both}
use Rattle.text.proofs.LineTexts.{front_parts}
use Rattle.text.proofs.NumberRows.{room_as_they_are, written_as_they_are}
use Rattle.text.proofs.lists.write_space_front.Goals as goal

pub write_space_head-at-requires : goal.write_space_head-at-requires
write_space_head-at-requires c = first_fits (front_parts _ _ c.args.own.now) c.requires

pub write_numbers-n-requires : goal.write_numbers-n-requires
write_numbers-n-requires c =
    room_as_they_are c.args.own.now (second_fits (front_parts _ _ c.args.own.now) c.requires c.write_space_head-at.ensures)

pub returns : goal.returns
returns c =
    both (front_parts _ _ c.args.own.now) c.requires c.write_space_head-at.ensures
    (written_as_they_are c.args.own.now c.write_numbers-n.ensures)
