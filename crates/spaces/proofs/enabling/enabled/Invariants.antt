-- The members of the spaces left, met with those so far, are the members of all.
use Rattle.std.proofs.Common.{◌≡◌, ◌*◌}
use mathlib.Core.List.{foldl}
use Rattle.laws.specs.Lists.{keep}
use Rattle.laws.proofs.Walks.{left}
use Rattle.properties.specs.Tables.{bag_at}
use Rattle.spaces.specs.Steps.{enabled_by}
use Rattle.spaces.proofs.Rows.{used, meet_at}
use Rattle.spaces.proofs.enabling.enabled.Given as goal

abbrev pub invariant-loop-c : goal.invariant-loop-c
invariant-loop-c l =
    foldl (meet_at l.groups l.members) l.those (keep (used l.preconditions (60 * l.row)) (left l.c l.size))
    ≡ enabled_by l.groups l.objects l.members (bag_at l.size l.preconditions l.row)
