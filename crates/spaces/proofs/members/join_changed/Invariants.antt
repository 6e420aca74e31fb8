-- The properties left, joined with the masks so far, make the whole.
use Rattle.std.proofs.Common.{◌*◌}
use Rattle.spaces.proofs.Rows.{differs}
use Rattle.spaces.proofs.Joining.{Joining}
use Rattle.spaces.proofs.members.join_changed.Given as goal

abbrev pub invariant-loop-c : goal.invariant-loop-c
invariant-loop-c l = Joining l.groups l.those (differs l.deletes l.adds (60 * l.row)) l.size l.fn.members l.c l.members
