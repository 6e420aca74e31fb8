-- All rows are left, one fewer, or none.
use mathlib.Core.Path.{refl}
use Rattle.laws.proofs.Walks.{walk_starts, walk_next, walk_ends}
use Rattle.spaces.specs.Steps.{round_in}
use Rattle.spaces.proofs.RowRounds.{gain_at}
use Rattle.spaces.proofs.members.round.Goals as goal

pub loop-row-init : goal.loop-row-init
unfolding round_in
loop-row-init c = walk_starts _ _ c.args.count c.args.members refl

pub loop-row-preserved : goal.loop-row-preserved
loop-row-preserved c =
    let a = c.args in
    walk_next (gain_at a.groups.now a.objects a.size a.preconditions.now a.deletes.now a.adds.now a.members) _
    a.count c.loop-row.row c.loop-row.gained _ c.loop-row-test.true c.gain.ensures c.loop-row.invariant

pub returns : goal.returns
returns c =
    let a = c.args in
    walk_ends (gain_at a.groups.now a.objects a.size a.preconditions.now a.deletes.now a.adds.now a.members) _
    a.count c.loop-row.row c.loop-row.gained c.loop-row-test.false c.loop-row.invariant
