-- All `T` lines, and the others into the rest of the buffer.
use Rattle.space_lines.proofs.Parts.{states_first}
use Rattle.text.proofs.Writing.{first_fits, second_fits, both}
use Rattle.space_lines.proofs.write_conditions.Goals as goal

pub write_states-at-requires : goal.write_states-at-requires
write_states-at-requires c = (c.requires.listable.rows, first_fits (states_first _ _ _) c.requires.room)

pub write_invariants-n-requires-clause-room : goal.write_invariants-n-requires-clause-room
write_invariants-n-requires-clause-room c = second_fits (states_first _ _ _) c.requires.room c.write_states-at.ensures

pub returns : goal.returns
returns c = both (states_first _ _ _) c.requires.room c.write_states-at.ensures c.write_invariants-n.ensures
