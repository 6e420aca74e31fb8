-- The schemas so far are written.
use Rattle.model.specs.Writer.{schema_bytes}
use Rattle.card.specs.Represents.{schema_of}
use Rattle.writer.specs.Bytes.{schema_room}
use Rattle.writer.proofs.WriteLaws.{WrittenTo}
use Rattle.writer.proofs.output.write_schemas.Given as goal

abbrev pub invariant-loop-s : goal.invariant-loop-s
invariant-loop-s l = WrittenTo schema_bytes (schema_of l.arities) l.schemas schema_room l.at l.initial.out l.s-index l.out l.next
