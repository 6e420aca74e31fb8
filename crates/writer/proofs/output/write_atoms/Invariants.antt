-- The atoms so far are written, and the buffer keeps its length.
use Rattle.model.specs.Writer.{atom_bytes}
use Rattle.card.specs.Represents.{atom_of}
use Rattle.writer.specs.Bytes.{atom_room}
use Rattle.writer.proofs.WriteLaws.{WrittenTo}
use Rattle.writer.proofs.output.write_atoms.Given as goal

abbrev pub invariant-loop-a : goal.invariant-loop-a
invariant-loop-a l = WrittenTo atom_bytes (atom_of l.arities) l.atoms atom_room l.at l.initial.out l.a-index l.out l.next
