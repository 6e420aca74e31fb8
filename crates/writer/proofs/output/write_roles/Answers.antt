-- One role is absent; another count is its byte.
use Rattle.model.specs.Writer.{role_bytes}
use Rattle.std.proofs.lemmas.Bool.{ne_eqb}
use Rattle.writer.proofs.WriteLaws.{writes_none}
use Rattle.writer.proofs.output.write_roles.Goals as goal

pub returns-then-parameters-eq1 : goal.returns-then-parameters-eq1
unfolding role_bytes
returns-then-parameters-eq1 c = rw c.if-parameters-eq1.true (writes_none 1 _ _)

pub returns : goal.returns
unfolding role_bytes
returns c = rw (ne_eqb _ 1 c.if-parameters-eq1.false) c.write_byte.ensures
