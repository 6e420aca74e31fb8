-- The letter with the first number, and the second in the rest of the buffer.
use Rattle.text.proofs.Writing.{first_fits, second_fits, both}
use Rattle.text.proofs.LineTexts.{two_numbers}
use Rattle.text.proofs.numbers.write_two.Goals as goal

pub write_one-at-requires : goal.write_one-at-requires
write_one-at-requires c = first_fits (two_numbers _ _ _) c.requires

pub write_item-n-requires : goal.write_item-n-requires
write_item-n-requires c = second_fits (two_numbers _ _ _) c.requires c.write_one-at.ensures

pub returns : goal.returns
returns c = both (two_numbers _ _ _) c.requires c.write_one-at.ensures c.write_item-n.ensures
