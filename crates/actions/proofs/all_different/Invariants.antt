-- The objects from here on decide what is left to decide.
use Rattle.std.proofs.Common.{◌≡◌, drop}
use Rattle.laws.specs.Lists.{distinct}
use Rattle.actions.proofs.all_different.Given as goal

abbrev pub invariant-loop-i : goal.invariant-loop-i
invariant-loop-i l = distinct (drop l.i l.objects) ≡ distinct l.objects
