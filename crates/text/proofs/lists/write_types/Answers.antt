-- The letter with the two numbers, and the objects in the rest of the buffer.
use Rattle.text.proofs.Writing.{first_fits, second_fits, both}
use Rattle.text.proofs.LineTexts.{types_parts}
use Rattle.text.proofs.lists.write_types.Goals as goal

pub write_two-at-requires : goal.write_two-at-requires
write_two-at-requires c = first_fits (types_parts _ _ _) c.requires

pub write_last_members-n-requires : goal.write_last_members-n-requires
write_last_members-n-requires c = second_fits (types_parts _ _ _) c.requires c.write_two-at.ensures

pub returns : goal.returns
returns c = both (types_parts _ _ _) c.requires c.write_two-at.ensures c.write_last_members-n.ensures
