-- The number of parameters of the schemas passed, and their bags in the three tables.
use Rattle.model.specs.Transitions.{properties_from}
use Rattle.card.specs.Represents.{arities_of, schemas_of}
use Rattle.properties.proofs.ParameterRows.{sizes_of, Counted, BagsPassed}
use Rattle.properties.proofs.parameters.parameter_bags.Given as goal

abbrev pub invariant-loop-i : goal.invariant-loop-i
invariant-loop-i l =
    let those = schemas_of (arities_of l.predicates) l.schemas in
    let all = properties_from 0 (arities_of l.predicates) in
    record {
      counted : Counted (sizes_of those) l.i l.count;
      preconditions_passed : BagsPassed those all (λ s. s.preconditions) l.i l.fn.preconditions l.preconditions;
      deletes_passed : BagsPassed those all (λ s. s.deletes) l.i l.fn.deletes l.deletes;
      adds_passed : BagsPassed those all (λ s. s.adds) l.i l.fn.adds l.adds;
    }
