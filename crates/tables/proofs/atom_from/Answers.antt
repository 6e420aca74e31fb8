use Rattle.std.proofs.Common.{rules}
use Rattle.tables.specs.Flat.{atom_from}
use Rattle.tables.proofs.atom_from.Goals as goal

pub returns : goal.returns
unfolding atom_from
returns c = search rules
