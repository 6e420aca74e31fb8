-- The conditions below i are compared with each other.
use Rattle.conditions.specs.Minimal.{masks_by, AllEntered}
use Rattle.conditions.proofs.minimal.compare_all.Given as goal

abbrev pub invariant-loop-i : goal.invariant-loop-i
invariant-loop-i l = AllEntered l.size l.table l.i (masks_by l.containing l.contained)
