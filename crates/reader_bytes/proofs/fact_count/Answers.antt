-- `fact_count` reads as the definition does.
use Rattle.std.proofs.Common.{refl, arith}
use Rattle.card.specs.Represents.{refusal_number}
use Rattle.reader_bytes.proofs.Reading.{accepts, refuses, hands_on}
use Rattle.reader_bytes.proofs.FactCount.{high_ends, low_ends, count_read, count_over}
use Rattle.reader_bytes.proofs.fact_count.Goals as goal

pub returns-in_err-high : goal.returns-in_err-high
returns-in_err-high c = hands_on _ _ c.from_residual.ensures.1 (high_ends _ c.in_err-high.ensures.says)

pub returns-in_err-low : goal.returns-in_err-low
returns-in_err-low c = hands_on _ _ c.from_residual-in_err-low.ensures.1 (low_ends _ _ c.in_ok-high.ensures.says c.in_err-low.ensures.says)

pub returns-then-count-le512 : goal.returns-then-count-le512
returns-then-count-le512 c =
    accepts (count_read _ _ c.in_ok-high.ensures.says c.in_ok-low.ensures.says (omega arith) c.if-count-le512.true) c.in_ok-low.ensures.within refl

pub returns-else-count-le512 : goal.returns-else-count-le512
unfolding refusal_number
returns-else-count-le512 c =
    refuses (count_over _ _ c.in_ok-high.ensures.says c.in_ok-low.ensures.says (omega arith) c.if-count-le512.false)
