-- The facts of the atoms passed stand at the front of the array.
use Rattle.std.proofs.Common.{◌≡◌, map, take}
use Rattle.laws.specs.Lists.{padded}
use Rattle.actions.proofs.GroundRows.{number_of}
use Rattle.actions.proofs.grounded.Given as goal

abbrev pub invariant-loop-i : goal.invariant-loop-i
invariant-loop-i l = l.numbers ≡ padded 8 0 (map (number_of l.arities l.objects) (take l.i l.list.atoms))
