-- Of the atoms passed, those that do not hold are counted.
use Rattle.actions.specs.Grounds.{holds_in}
use Rattle.actions.proofs.Holding.{Failed}
use Rattle.actions.proofs.missing_facts.Given as goal

abbrev pub invariant-loop-a : goal.invariant-loop-a
invariant-loop-a l = Failed (holds_in l.count l.state l.objects) l.arities l.fn.list l.a-index l.missing
