-- All objects are left, one fewer, or none.
use Rattle.std.proofs.Common.{replicate}
use mathlib.Core.Path.{refl}
use Rattle.laws.proofs.Walks.{walk_starts, walk_next, walk_ends}
use Rattle.spaces.specs.Steps.{open_masks}
use Rattle.spaces.proofs.Joining.{open_next}
use Rattle.spaces.proofs.members.initial_members.Goals as goal

pub loop-object-init : goal.loop-object-init
unfolding open_masks
loop-object-init c =
    let a = c.args in
    walk_starts (open_next a.groups.now a.size a.counts.now) (open_masks a.groups.now a.size a.counts.now a.objects)
    a.objects (replicate 60 0) refl

pub loop-object-preserved : goal.loop-object-preserved
loop-object-preserved c =
    let a = c.args in
    walk_next (open_next a.groups.now a.size a.counts.now) (open_masks a.groups.now a.size a.counts.now a.objects)
    a.objects c.loop-object.object c.loop-object.members _ c.loop-object-test.true c.open_object.ensures c.loop-object.invariant

pub returns : goal.returns
returns c =
    let a = c.args in
    walk_ends (open_next a.groups.now a.size a.counts.now) (open_masks a.groups.now a.size a.counts.now a.objects)
    a.objects c.loop-object.object c.loop-object.members c.loop-object-test.false c.loop-object.invariant
