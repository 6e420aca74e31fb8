use Rattle.std.proofs.Common.{arith}
use Rattle.reader_atoms.proofs.Orders.{numbers_same}
use Rattle.reader_atoms.proofs.is_same.Goals as goal

pub returns : goal.returns
returns c =
    rw (c.number.ensures, c.number-2.ensures)
    (numbers_same c.args.a c.args.b (omega (arith, c.well_formed), omega (arith, c.well_formed), omega (arith, c.well_formed))
    (omega (arith, c.well_formed), omega (arith, c.well_formed), omega (arith, c.well_formed)))
