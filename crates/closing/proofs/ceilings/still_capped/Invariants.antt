-- The schema was asked for each predicate passed.
use Rattle.closing.proofs.Capping.{Asked}
use Rattle.closing.proofs.ceilings.still_capped.Given as goal

abbrev pub invariant-loop-p : goal.invariant-loop-p
invariant-loop-p l = Asked l.deletes l.adds l.fn.capped l.still l.p
