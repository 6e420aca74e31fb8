-- The objects left, joined with the masks so far, make the whole.
use Rattle.std.proofs.Common.{◌≡◌}
use mathlib.Core.List.{foldl}
use Rattle.laws.proofs.Walks.{left}
use Rattle.spaces.specs.Steps.{open_masks}
use Rattle.spaces.proofs.Joining.{open_next}
use Rattle.spaces.proofs.members.initial_members.Given as goal

abbrev pub invariant-loop-object : goal.invariant-loop-object
invariant-loop-object l =
    foldl (open_next l.groups l.size l.counts) l.members (left l.object l.objects) ≡ open_masks l.groups l.size l.counts l.objects
