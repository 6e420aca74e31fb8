-- One atom after the other.
use Rattle.std.proofs.Common.{arith}
use Rattle.card.specs.Represents.{blank_atom}
use Rattle.open_actions.proofs.Choosing.{list_atom, fill_next}
use Rattle.open_actions.proofs.query.Query.supports_for.Goals as goal

pub atom_support-requires : goal.atom_support-requires
unfolding blank_atom
atom_support-requires c = list_atom _ c.requires c.loop-i-test.true

pub loop-i-preserved : goal.loop-i-preserved
unfolding blank_atom
loop-i-preserved c = fill_next c.loop-i.invariant (omega (arith, c.requires.few_atoms)) c.atom_support.ensures
