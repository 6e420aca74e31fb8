-- The minimal conditions below i are picked.
use Rattle.conditions.proofs.Containing.{least_by}
use Rattle.conditions.proofs.Filling.{Picked}
use Rattle.conditions.proofs.minimal.minimal_of.Given as goal

abbrev pub invariant-loop-i : goal.invariant-loop-i
invariant-loop-i l = Picked (least_by l.containing l.contained) 64 l.count l.indices l.n l.i
