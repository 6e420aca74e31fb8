-- The lines of the space and, where it is mixed, those of its rescue into the rest of the buffer.
use Rattle.std.proofs.Common.{arith}
use Rattle.prepared.proofs.Finding.{room_for_rescue}
use Rattle.prepared.proofs.Rescuing.{section_mixed, section_other}
use Rattle.prepared.proofs.Within.{both_within}
use Rattle.prepared.proofs.write_space_section.Goals as goal

pub write_rescue-n-requires-clause-space_bytes_in_bounds : goal.write_rescue-n-requires-clause-space_bytes_in_bounds
write_rescue-n-requires-clause-space_bytes_in_bounds c =
    (room_for_rescue c.requires.section_ready.found.of c.in-Mixed.is c.requires.output_bytes_in_bounds c.write_found-at.ensures).1

pub overflow_add-result : goal.overflow_add-result
overflow_add-result c =
    let found = c.requires.section_ready.found in
    let room = room_for_rescue found.of c.in-Mixed.is c.requires.output_bytes_in_bounds c.write_found-at.ensures in
    omega (
      arith,
      both_within c.write_found-at.ensures room.0 (c.write_rescue-n.ensures _ found) c.write_rescue-n.auto.out,
      c.write_found-at.auto.out,
      c.well_formed.0,
    )

pub returns-in-Mixed : goal.returns-in-Mixed
returns-in-Mixed c t h = section_mixed h.of c.in-Mixed.is c.write_found-at.ensures (c.write_rescue-n.ensures t h)

pub returns-in_default : goal.returns-in_default
returns-in_default c t h = section_other h.of c.in_default.not-Mixed c.write_found-at.ensures
