-- What the rows left bring, with what the members have gained so far, is the whole round.
use Rattle.std.proofs.Common.{◌≡◌}
use mathlib.Core.List.{foldl}
use Rattle.laws.proofs.Walks.{left}
use Rattle.spaces.specs.Steps.{round_in}
use Rattle.spaces.proofs.RowRounds.{gain_at}
use Rattle.spaces.proofs.members.round.Given as goal

abbrev pub invariant-loop-row : goal.invariant-loop-row
invariant-loop-row l =
    foldl (gain_at l.groups l.objects l.size l.preconditions l.deletes l.adds l.members) l.gained (left l.row l.count)
    ≡ round_in l.groups l.objects l.size l.count l.preconditions l.deletes l.adds l.members
