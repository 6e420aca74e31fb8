-- The atoms of a list are read in ascending order.
use Rattle.std.proofs.Common.{refl, arith}
use Rattle.reader_bytes.proofs.Reading.{hands_on}
use Rattle.reader_lists.proofs.Ordered.{ordered_starts, ordered_goes_on, ordered_stops}
use Rattle.reader_lists.proofs.Blanks.{blank_atoms, atoms_filled}
use Rattle.reader_lists.proofs.atoms.Goals as goal

pub loop-i-init : goal.loop-i-init
loop-i-init c = ordered_starts c.requires.0 (omega arith) refl (blank_atoms c.no_atoms-list.ensures)

pub returns-in_err-a : goal.returns-in_err-a
returns-in_err-a c = hands_on _ _ c.from_residual.ensures.1 (ordered_stops c.loop-i.invariant c.loop-i-test.true c.in_err-a.ensures)

pub loop-i-preserved : goal.loop-i-preserved
loop-i-preserved c = ordered_goes_on c.loop-i.invariant c.loop-i-test.true c.in_ok-a.ensures

pub returns : goal.returns
returns c = atoms_filled c.loop-i.invariant.within c.loop-i-test.false _ _ c.loop-i.invariant.filling
