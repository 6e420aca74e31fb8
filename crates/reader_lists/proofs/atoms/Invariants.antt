-- `i` atoms are read, up to the cursor, and `previous` is the last of them.
use Rattle.card.specs.Represents.{atoms_of}
use Rattle.reader_atoms.specs.Atoms.{field_atom}
use Rattle.reader_lists.proofs.Ordered.{Ordered}
use Rattle.reader_lists.proofs.atoms.Given as goal

abbrev pub invariant-loop-i : goal.invariant-loop-i
invariant-loop-i l =
    let read = field_atom l.arities l.parameters l.field (atoms_of l.arities l.preconditions) in
    Ordered l.arities 8 read l.count l.part l.part l.list.atoms l.i l.c.at l.previous
