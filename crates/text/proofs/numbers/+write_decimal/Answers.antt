-- The digits that are written are those of the number: the last behind those of its tenth part.
use Rattle.std.proofs.Common.{arith, length-set}
use Rattle.text.proofs.Decimal.{digit_written, some_digit, tenth_fits, last_fits, last_digit_written, two_written, two_places}
use Rattle.text.proofs.numbers.+write_decimal.Goals as goal

pub bounds-out-0 : goal.bounds-out-0
bounds-out-0 t c = omega (arith, some_digit c.args.n)

pub returns-then-n-lt10 : goal.returns-then-n-lt10
returns-then-n-lt10 t c = digit_written _ _ c.if-n-lt10.true (omega (arith, some_digit c.args.n))

pub bounds-out-0-then-n-lt100 : goal.bounds-out-0-then-n-lt100
bounds-out-0-then-n-lt100 t c = omega (arith, some_digit c.args.n)

pub bounds-out-1 : goal.bounds-out-1
bounds-out-1 t c = simp length-set (two_places c.if-n-lt10.false c.requires)

pub returns-then-n-lt100 : goal.returns-then-n-lt100
returns-then-n-lt100 t c = two_written _ _ c.if-n-lt10.false c.if-n-lt100.true c.requires

pub write_decimal-at-requires : goal.write_decimal-at-requires
write_decimal-at-requires t c = (omega arith, tenth_fits _ c.if-n-lt10.false c.requires)

pub bounds-out-at : goal.bounds-out-at
bounds-out-at t c = last_fits _ c.if-n-lt10.false c.requires c.write_decimal-at.ensures

pub returns : goal.returns
returns t c = last_digit_written _ c.if-n-lt10.false c.requires c.write_decimal-at.ensures
