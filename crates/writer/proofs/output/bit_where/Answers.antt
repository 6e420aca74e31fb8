use Rattle.writer.specs.Bytes.{bit_where}
use Rattle.writer.proofs.output.bit_where.Goals as goal

pub returns-then-stands : goal.returns-then-stands
unfolding bit_where
returns-then-stands c = rw c.if-stands.true

pub returns-else-stands : goal.returns-else-stands
unfolding bit_where
returns-else-stands c = rw c.if-stands.false
