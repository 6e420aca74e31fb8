-- The head of the card is read, and `i` schemas, up to the cursor.
use Rattle.reader.proofs.SchemaLoop.{SchemasFilling}
use Rattle.reader.proofs.decode.Given as goal

abbrev pub invariant-loop-i : goal.invariant-loop-i
invariant-loop-i l = SchemasFilling l.card l.arities l.objects l.schema_count l.schemas.schemas l.i l.c.at
