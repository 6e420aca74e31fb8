use Rattle.std.proofs.Common.{rules}
use Rattle.tables.specs.Flat.{schema_from}
use Rattle.tables.proofs.schema_from.Goals as goal

pub returns : goal.returns
unfolding schema_from
returns c = search rules
