-- The number of parameters of the schemas passed.
use Rattle.std.proofs.Common.{map}
use Rattle.card.specs.Represents.{blank_schema, entries}
use Rattle.properties.proofs.ParameterRows.{Counted}
use Rattle.properties.proofs.parameters.parameters_of.Given as goal

abbrev pub invariant-loop-schema : goal.invariant-loop-schema
invariant-loop-schema l = Counted (map (λ s. s.parameters) (entries l.fn.schemas.count blank_schema l.fn.schemas.schemas)) l.schema-index l.parameters
