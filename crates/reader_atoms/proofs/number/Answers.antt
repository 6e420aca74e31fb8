use Rattle.reader_atoms.specs.Atoms.{number_of}
use Rattle.reader_atoms.proofs.number.Goals as goal

pub returns : goal.returns
unfolding number_of
returns c = c.from_be_bytes.ensures
