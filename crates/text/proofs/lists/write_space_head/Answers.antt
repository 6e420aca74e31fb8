-- The letter with the number, and the kind in the rest of the buffer.
use Rattle.text.proofs.Writing.{first_fits, second_fits, both}
use Rattle.text.proofs.LineTexts.{head_parts}
use Rattle.text.proofs.lists.write_space_head.Goals as goal

pub write_one-at-requires : goal.write_one-at-requires
write_one-at-requires c = first_fits (head_parts _ _) c.requires

pub write_kind-n-requires : goal.write_kind-n-requires
write_kind-n-requires c = second_fits (head_parts _ _) c.requires c.write_one-at.ensures

pub returns : goal.returns
returns c = both (head_parts _ _) c.requires c.write_one-at.ensures c.write_kind-n.ensures
