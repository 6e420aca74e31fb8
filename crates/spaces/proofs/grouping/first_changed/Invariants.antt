-- The first property left that is changed is the first of all.
use Rattle.std.proofs.Common.{◌≡◌, ◌*◌}
use Rattle.laws.specs.Lists.{keep}
use Rattle.laws.proofs.Walks.{left}
use Rattle.properties.specs.Tables.{bag_at}
use Rattle.spaces.specs.Steps.{changed_by, first_of}
use Rattle.spaces.proofs.Rows.{differs}
use Rattle.spaces.proofs.grouping.first_changed.Given as goal

abbrev pub invariant-loop-c : goal.invariant-loop-c
invariant-loop-c l =
    first_of (keep (differs l.deletes l.adds (60 * l.row)) (left l.c l.size))
    ≡ first_of (changed_by (bag_at l.size l.deletes l.row) (bag_at l.size l.adds l.row))
