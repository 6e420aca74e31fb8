-- The `S` line, and the others into the rest of the buffer.
use Rattle.space_lines.proofs.Parts.{space_first}
use Rattle.text.proofs.Writing.{first_fits, second_fits, both}
use Rattle.space_lines.proofs.write_space.Goals as goal

pub write_space-at-requires : goal.write_space-at-requires
write_space-at-requires c = first_fits (space_first _ _ _ c.args.number _ _) c.requires.room

pub write_conditions-n-requires-clause-room : goal.write_conditions-n-requires-clause-room
write_conditions-n-requires-clause-room c = second_fits (space_first _ _ _ c.args.number _ _) c.requires.room c.write_space-at.ensures

pub returns : goal.returns
returns c = both (space_first _ _ _ c.args.number _ _) c.requires.room c.write_space-at.ensures c.write_conditions-n.ensures
