use Rattle.tables.specs.Front.{head_of}
use Rattle.tables.proofs.head_of.Goals as goal

pub returns : goal.returns
unfolding head_of
returns c = rw (c.number_of.ensures, c.low_byte-2.ensures, c.low_byte.ensures, c.length_of-length.ensures)
