-- An atom more is put behind the others, and at the end all are there.
use Rattle.std.proofs.Common.{arith, refl}
use Rattle.laws.specs.Lists.{padded}
use Rattle.card.specs.Represents.{blank_atom}
use Rattle.actions.proofs.GroundRows.{atom_known, grounded_step, grounded_end}
use Rattle.actions.proofs.grounded.Goals as goal

pub loop-i-init : goal.loop-i-init
unfolding padded
loop-i-init c = refl

pub ground-requires : goal.ground-requires
unfolding blank_atom
ground-requires c = (c.requires.right, atom_known _ _ _ c.requires c.loop-i.i c.loop-i-test.true)

pub loop-i-preserved : goal.loop-i-preserved
unfolding blank_atom
loop-i-preserved c = grounded_step _ _ _ c.requires c.loop-i.i _ _ c.loop-i-test.true c.loop-i.invariant c.ground.ensures

pub returns : goal.returns
returns c = grounded_end _ _ c.args.list c.requires c.loop-i.i _ (omega arith) c.loop-i.invariant
