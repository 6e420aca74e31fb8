-- What is left to unite, united with the groups so far, is the whole.
use Rattle.std.proofs.Common.{◌≡◌, ◌*◌}
use mathlib.Core.List.{foldl}
use Rattle.laws.specs.Lists.{keep}
use Rattle.laws.proofs.Walks.{left}
use Rattle.model.specs.Spaces.{unite, unite_all}
use Rattle.properties.specs.Tables.{bag_at}
use Rattle.spaces.specs.Steps.{changed_by}
use Rattle.spaces.proofs.Rows.{differs}
use Rattle.spaces.proofs.grouping.unite_changed.Given as goal

abbrev pub invariant-loop-c : goal.invariant-loop-c
invariant-loop-c l =
    foldl (unite l.first) l.united (keep (differs l.deletes l.adds (60 * l.row)) (left l.c l.size))
    ≡ unite_all l.fn.groups (changed_by (bag_at l.size l.deletes l.row) (bag_at l.size l.adds l.row))
