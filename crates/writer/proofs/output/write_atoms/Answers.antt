-- Each turn writes one atom.
use Rattle.model.specs.Writer.{atom_bytes}
use Rattle.card.specs.Represents.{blank_atom, atom_of}
use Rattle.writer.specs.Bytes.{atom_room}
use Rattle.writer.proofs.WriteLaws.{none_written, item_written, items_written}
use Rattle.writer.proofs.output.write_atoms.Goals as goal

pub loop-a-init : goal.loop-a-init
loop-a-init c = none_written atom_bytes (atom_of c.args.arities.now) c.args.atoms.now atom_room _ _

pub loop-a-preserved : goal.loop-a-preserved
unfolding blank_atom
loop-a-preserved c =
    item_written atom_bytes _ _ atom_room _ _ blank_atom _ c.loop-a-test.true c.requires c.loop-a.invariant c.write_atom-next.ensures

pub returns : goal.returns
returns c = items_written atom_bytes _ _ atom_room _ _ _ c.loop-a-test.false c.loop-a.auto.a-index-end c.loop-a.invariant
