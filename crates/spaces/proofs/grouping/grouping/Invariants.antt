-- What is left to unite, united with the groups so far, is the whole.
use Rattle.std.proofs.Common.{◌≡◌}
use mathlib.Core.List.{foldl}
use Rattle.laws.proofs.Walks.{left}
use Rattle.spaces.specs.Steps.{groups_in}
use Rattle.spaces.proofs.Uniting.{unite_at}
use Rattle.spaces.proofs.grouping.grouping.Given as goal

abbrev pub invariant-loop-row : goal.invariant-loop-row
invariant-loop-row l =
    foldl (unite_at l.size l.deletes l.adds) l.groups (left l.row l.count) ≡ groups_in l.size l.count l.deletes l.adds
