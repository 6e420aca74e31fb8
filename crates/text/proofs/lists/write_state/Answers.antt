-- The letter, and the counts in the rest of the buffer.
use Rattle.text.proofs.Writing.{first_fits, second_fits, both}
use Rattle.text.proofs.LineTexts.{state_parts}
use Rattle.text.proofs.lists.write_state.Goals as goal

pub write_byte-at-requires : goal.write_byte-at-requires
write_byte-at-requires c = first_fits (state_parts _) c.requires

pub write_last_counts-list-requires : goal.write_last_counts-list-requires
write_last_counts-list-requires c = second_fits (state_parts _) c.requires c.write_byte-at.ensures

pub returns : goal.returns
returns c = both (state_parts _) c.requires c.write_byte-at.ensures c.write_last_counts-list.ensures
