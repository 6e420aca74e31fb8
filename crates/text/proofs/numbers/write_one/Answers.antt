-- The letter, and the number in the rest of the buffer.
use Rattle.text.proofs.Writing.{first_fits, second_fits, both}
use Rattle.text.proofs.LineTexts.{one_number_lem}
use Rattle.text.proofs.numbers.write_one.Goals as goal

pub write_byte-at-requires : goal.write_byte-at-requires
write_byte-at-requires c = first_fits (one_number_lem _ _) c.requires

pub write_item-n-requires : goal.write_item-n-requires
write_item-n-requires c = second_fits (one_number_lem _ _) c.requires c.write_byte-at.ensures

pub returns : goal.returns
returns c = both (one_number_lem _ _) c.requires c.write_byte-at.ensures c.write_item-n.ensures
