-- As many rows as parameters and properties.
use Rattle.std.proofs.Common.{ℕ, ◌+◌, List, [], length, sym, ap, ◌∙◌, arith}
use mathlib.Core.Path.{ap₂}
use Rattle.model.specs.Transitions.{properties, properties_from}
use Rattle.properties.specs.Parameters.{parameters_in}
use Rattle.properties.proofs.Predicates.{few_properties}
use Rattle.properties.proofs.SchemaLists.{small_few}
use Rattle.prepared.specs.Prepared.{rows_at_most}
use Rattle.prepared.proofs.rows_at_most.Goals as goal

pub overflow_add-result : goal.overflow_add-result
overflow_add-result c =
    omega (
      arith,
      c.parameters_of-parameters.ensures [],
      small_few [] _ c.requires.schemas_small,
      c.numbered-properties.ensures.counted,
      few_properties _ c.requires.arities_right,
    )

pub returns : goal.returns
unfolding rows_at_most properties
returns c t arities_are schemas_are =
    ap₂ ◌+◌ (c.parameters_of-parameters.ensures _ ∙ ap parameters_in (sym schemas_are))
    (c.numbered-properties.ensures.counted ∙ ap (λ (arities : List ℕ). length (properties_from 0 arities)) (sym arities_are))
