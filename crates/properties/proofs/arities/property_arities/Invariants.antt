-- The table holds the arities of the properties of the first p predicates.
use Rattle.card.specs.Represents.{arities_of}
use Rattle.properties.proofs.ArityTable.{ArityPassed}
use Rattle.properties.proofs.arities.property_arities.Given as goal

abbrev pub invariant-loop-p : goal.invariant-loop-p
invariant-loop-p l = ArityPassed (arities_of l.predicates) l.p l.first l.table
