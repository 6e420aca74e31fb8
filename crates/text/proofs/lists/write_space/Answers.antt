-- What stands before the members, and these in the rest of the buffer.
use Rattle.text.proofs.Writing.{first_fits, second_fits, both}
use Rattle.text.proofs.LineTexts.{space_parts}
use Rattle.text.proofs.lists.write_space.Goals as goal

pub write_space_front-at-requires : goal.write_space_front-at-requires
write_space_front-at-requires c = first_fits (space_parts _ _ _ _) c.requires

pub write_last_members-n-requires : goal.write_last_members-n-requires
write_last_members-n-requires c = second_fits (space_parts _ _ _ _) c.requires c.write_space_front-at.ensures

pub returns : goal.returns
returns c = both (space_parts _ _ _ _) c.requires c.write_space_front-at.ensures c.write_last_members-n.ensures
