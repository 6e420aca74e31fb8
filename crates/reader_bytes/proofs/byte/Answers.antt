-- `byte` reads as the definition does.
use Rattle.std.proofs.Common.{refl, arith}
use Rattle.card.specs.Represents.{refusal_number}
use Rattle.reader_bytes.proofs.Reading.{accepts, refuses, byte_at_lem, byte_past}
use Rattle.reader_bytes.proofs.byte.Goals as goal

pub returns-then-at-card : goal.returns-then-at-card
returns-then-at-card c = accepts (byte_at_lem _ _ c.if-at-card.true) (omega arith) refl

pub returns-else-at-card : goal.returns-else-at-card
unfolding refusal_number
returns-else-at-card c = refuses (byte_past _ _ c.if-at-card.false)
