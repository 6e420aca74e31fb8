use Rattle.std.proofs.Common.{rules}
use Rattle.tables.specs.Flat.{table_from}
use Rattle.tables.proofs.table_from.Goals as goal

pub returns : goal.returns
unfolding table_from
returns c = search rules
