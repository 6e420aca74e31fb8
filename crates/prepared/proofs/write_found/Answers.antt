-- The lines of what was found.
use Rattle.std.proofs.Common.{arith}
use Rattle.prepared.specs.Found.{found_lines}
use Rattle.prepared.proofs.Finding.{number_few, listable_found, room_found}
use Rattle.prepared.proofs.write_found.Goals as goal

pub offset_bounds-prepared-number : goal.offset_bounds-prepared-number
offset_bounds-prepared-number c = omega (arith, number_few c.requires.some_found.of)

pub bounds-prepared-number : goal.bounds-prepared-number
bounds-prepared-number c = number_few c.requires.some_found.of

pub write_space-requires-clause-listable : goal.write_space-requires-clause-listable
write_space-requires-clause-listable c = listable_found c.requires.some_found.of

pub write_space-requires-clause-room : goal.write_space-requires-clause-room
unfolding found_lines
write_space-requires-clause-room c =
    room_found c.requires.some_found.of (λ i. omega (arith, c.type_inv.conditions i)) _ c.requires.space_bytes_in_bounds

pub returns : goal.returns
unfolding found_lines
returns c = c.write_space.ensures
