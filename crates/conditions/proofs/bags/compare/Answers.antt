-- The first place at which the rows differ, and what is left in the direction that is possible.
use Rattle.std.proofs.Common.{arith}
use Rattle.conditions.proofs.Compared.{rows_equal, place_inside, rows_within, rows_apart, rows_around, rows_lacking}
use Rattle.conditions.proofs.bags.compare.Goals as goal

pub returns-in_default : goal.returns-in_default
returns-in_default c = rows_equal c.requires c.in_default.ensures

-- ---- the place at which they differ is inside

pub overflow_add-i : goal.overflow_add-i
overflow_add-i c = omega (arith, place_inside c.requires c.in-Some.ensures, c.requires.0.inside)

pub offset_bounds-table-i : goal.offset_bounds-table-i
offset_bounds-table-i c = omega (arith, place_inside c.requires c.in-Some.ensures, c.requires.0.inside)

pub bounds-table-i : goal.bounds-table-i
bounds-table-i c = omega (arith, place_inside c.requires c.in-Some.ensures, c.requires.0.inside)

pub overflow_add-j : goal.overflow_add-j
overflow_add-j c = omega (arith, place_inside c.requires c.in-Some.ensures, c.requires.1.inside)

pub offset_bounds-table-j : goal.offset_bounds-table-j
offset_bounds-table-j c = omega (arith, place_inside c.requires c.in-Some.ensures, c.requires.1.inside)

pub bounds-table-j : goal.bounds-table-j
bounds-table-j c = omega (arith, place_inside c.requires c.in-Some.ensures, c.requires.1.inside)

pub covers_from-requires : goal.covers_from-requires
covers_from-requires c = (c.requires.1, c.requires.0, omega (arith, place_inside c.requires c.in-Some.ensures))

pub covers_from-requires-2 : goal.covers_from-requires-2
covers_from-requires-2 c = (c.requires.0, c.requires.1, omega (arith, place_inside c.requires c.in-Some.ensures))

-- ---- one of them has the smaller count there

pub returns-then-covers_from : goal.returns-then-covers_from
returns-then-covers_from c = rows_within c.requires c.in-Some.ensures c.if-table-i.true c.covers_from.ensures c.if-covers_from.true

pub returns-then-table-i : goal.returns-then-table-i
returns-then-table-i c = rows_apart c.requires c.in-Some.ensures c.if-table-i.true c.covers_from.ensures c.if-covers_from.false

pub returns-then-covers_from-2 : goal.returns-then-covers_from-2
returns-then-covers_from-2 c = rows_around c.requires c.in-Some.ensures c.if-table-i.false c.covers_from-2.ensures c.if-covers_from-2.true

pub returns : goal.returns
returns c = rows_lacking c.requires c.in-Some.ensures c.if-table-i.false c.covers_from-2.ensures c.if-covers_from-2.false
