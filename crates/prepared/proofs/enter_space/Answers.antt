-- The totals of what was found.
use Rattle.std.proofs.Common.{arith}
use Rattle.prepared.proofs.Finding.{number_few, enterable_found, totals_found}
use Rattle.prepared.proofs.enter_space.Goals as goal

pub offset_bounds-prepared-number : goal.offset_bounds-prepared-number
offset_bounds-prepared-number c = omega (arith, number_few c.requires.some_found.of)

pub bounds-prepared-number : goal.bounds-prepared-number
bounds-prepared-number c = number_few c.requires.some_found.of

pub enter_totals-requires : goal.enter_totals-requires
enter_totals-requires c = enterable_found c.requires.some_found.of c.size-members.ensures _ c.requires.fixed_len

pub returns : goal.returns
returns c = totals_found c.requires.some_found.of c.size-members.ensures _ c.enter_totals.ensures
