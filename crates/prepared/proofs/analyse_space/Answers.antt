-- The own properties of the space, and its analysis.
use Rattle.std.proofs.Common.{arith}
use Rattle.prepared.specs.Found.{own_of_space}
use Rattle.prepared.proofs.Analysing.{own_kept, own_low, sizes_low, analysable_space, found_at}
use Rattle.prepared.proofs.analyse_space.Goals as goal

pub bounds-prepared-number : goal.bounds-prepared-number
bounds-prepared-number c = (sizes_low c.requires).1.1

pub own_properties-own-requires : goal.own_properties-own-requires
own_properties-own-requires c = ((sizes_low c.requires).0, (sizes_low c.requires).1.0)

pub shared_ref_as_front-analyse : goal.shared_ref_as_front-analyse
unfolding own_of_space
shared_ref_as_front-analyse c = omega (arith, c.own_properties-own.ensures.count, own_low c.requires)

pub offset_bounds-prepared-number : goal.offset_bounds-prepared-number
offset_bounds-prepared-number c = omega (arith, (sizes_low c.requires).1.1)

pub bounds-prepared-number-2 : goal.bounds-prepared-number-2
bounds-prepared-number-2 c = (sizes_low c.requires).1.1

pub analyse-analysed-requires : goal.analyse-analysed-requires
unfolding own_of_space
analyse-analysed-requires c = analysable_space c.requires (own_kept c.own_properties-own.ensures)

pub returns : goal.returns
unfolding own_of_space
returns c = found_at c.requires (own_kept c.own_properties-own.ensures) c.own_properties-own.ensures c.analyse-analysed.ensures
