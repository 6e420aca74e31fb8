-- The properties left, joined with the masks so far, make the whole.
use Rattle.std.proofs.Common.{◌*◌}
use Rattle.spaces.proofs.Rows.{used}
use Rattle.spaces.proofs.Joining.{Joining}
use Rattle.spaces.proofs.members.open_object.Given as goal

abbrev pub invariant-loop-c : goal.invariant-loop-c
invariant-loop-c l = Joining l.groups l.alone (used l.counts (60 * l.object)) l.size l.fn.members l.c l.members
