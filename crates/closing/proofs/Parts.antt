-- The lists of a represented task fit what counts them.
use mathlib.Core.Path.{refl}
use Rattle.laws.specs.Lists.{padded}
use Rattle.card.specs.declared.Task.{Task}
use Rattle.card.specs.Represents.{task_of, arities_of, Represented}
use Rattle.card.proofs.Counts.{schemas_few, facts_few}
use Rattle.properties.specs.Represented.{first_properties}
use Rattle.properties.proofs.Predicates.{known_placed}
use Rattle.properties.proofs.TaskParts.{arities_right, schema_right, facts_right, fact_known}
use Rattle.closing.specs.Fitting.{SchemasFit, FactsFit}

pub schemas_fit : (task : Task) → Represented task (task_of task) → SchemasFit task.schemas
schemas_fit task r = record {
  few = schemas_few task r;
  few_deletes = λ i d h. (schema_right task r i d h).deletes_right.few;
  few_adds = λ i d h. (schema_right task r i d h).adds_right.few;
}

pub facts_fit : (task : Task) → Represented task (task_of task) → FactsFit task.facts
facts_fit task r = record {
  few = facts_few task r;
  few_predicates =
      λ i h.
      (known_placed task.predicates (padded 20 0 (first_properties (arities_of task.predicates))) (arities_right task r) refl task.objects _
      (fact_known (facts_right task r) i h)).1.below;
}
