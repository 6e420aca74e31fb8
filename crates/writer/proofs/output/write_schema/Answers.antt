-- Its pieces are the schema.
use Rattle.std.proofs.Common.{arith}
use Rattle.writer.proofs.CardBytes.{parameters_fit, preconditions_fit, deletes_fit, adds_fit, whole_schema}
use Rattle.writer.proofs.output.write_schema.Goals as goal

pub write_roles-after_roles-requires : goal.write_roles-after_roles-requires
write_roles-after_roles-requires c = (parameters_fit _ c.requires.0, omega arith)

pub write_list-after_preconditions-requires : goal.write_list-after_preconditions-requires
write_list-after_preconditions-requires c = (preconditions_fit _ c.requires.0, omega arith)

pub write_list-after_deletes-requires : goal.write_list-after_deletes-requires
write_list-after_deletes-requires c = (deletes_fit _ c.requires.0, omega arith)

pub write_list-requires : goal.write_list-requires
write_list-requires c = (adds_fit _ c.requires.0, omega arith)

pub returns : goal.returns
returns c = search whole_schema
