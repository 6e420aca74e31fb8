-- The lines are written in two parts.
use Rattle.text.proofs.Writing.{first_fits, second_fits, both}
use Rattle.closing.proofs.Sizes.{front_parts}
use Rattle.closing.proofs.write_front.Goals as goal

pub write_totals-at-requires-clause-room : goal.write_totals-at-requires-clause-room
write_totals-at-requires-clause-room c = first_fits (front_parts _) c.requires.room

pub write_ceilings-n-requires : goal.write_ceilings-n-requires
write_ceilings-n-requires c = (c.requires.represented, second_fits (front_parts _) c.requires.room c.write_totals-at.ensures)

pub returns : goal.returns
returns c = both (front_parts _) c.requires.room c.write_totals-at.ensures c.write_ceilings-n.ensures
