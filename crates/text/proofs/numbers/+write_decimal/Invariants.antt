-- The call of `write_decimal` in itself: the number is the measure, since its tenth part is smaller.
use Rattle.text.proofs.numbers.+write_decimal.Given as goal

abbrev pub decreases-write_decimal : goal.decreases-write_decimal
decreases-write_decimal l = l.n
