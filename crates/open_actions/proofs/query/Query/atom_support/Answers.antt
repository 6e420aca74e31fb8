-- The atom's own parameters, as far as they are bound, and what the rows leave.
use Rattle.actions.proofs.GroundRows.{atom_predicate}
use Rattle.strips.proofs.Applying.{rows_ascend}
use Rattle.open_actions.proofs.Supporting.{atom_within, atom_supported}
use Rattle.open_actions.proofs.query.Query.atom_support.Goals as goal

pub bounds-self-from : goal.bounds-self-from
bounds-self-from c = rw c.from.ensures (atom_predicate _ _ _ c.requires.atom_known)

pub parameters_of-requires : goal.parameters_of-requires
parameters_of-requires c = rw c.from.ensures (atom_within c.requires)

pub rows_support-mask-requires : goal.rows_support-mask-requires
rows_support-mask-requires c = (rows_ascend c.args.self.now.ready.state_kept, rw c.from.ensures (atom_within c.requires))

pub returns : goal.returns
returns c = atom_supported _ c.common-linked.ensures (rw c.from.ensures at c.rows_support-mask.ensures)
