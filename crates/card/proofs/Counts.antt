-- What a represented task says of its counts: each is the length of the accepted task's list, and within its limit and its array.
use Prim.Native.Nat.{◌≤◌}
use native.Mathlib.Omega.{arith}
use mathlib.Core.Path.{◌≡◌, ap, ◌∙◌}
use mathlib.Core.List.{map}
use lib.ListN.{length, length-map}
use Rattle.laws.proofs.Padded.{length_padded}
use Rattle.model.proofs.Checked.{Checked, checked}
use Rattle.card.specs.declared.Task.{Task}
use Rattle.card.specs.Represents.{task_of, task_for, arities_for, schema_for, blank_schema, schemas_for, atom_for, blank_atom, facts_for, Represented}

module _ (task : Task) (r : Represented task (task_of task)) where
  pub right : Checked (task_of task)
  right = checked (task_of task) r.checked

  -- the predicates
  pub predicate_count : task.predicates.count ≡ length (task_of task).arities
  unfolding task_for arities_for
  predicate_count = ap (λ (x : Task). x.predicates.count) r.stands

  pub predicates_few : task.predicates.count ≤ 20
  predicates_few = omega (arith, predicate_count, right.few_predicates)

  arities_size : length task.predicates.arities ≡ 20
  unfolding task_for arities_for
  arities_size =
      ap (λ (x : Task). length x.predicates.arities) r.stands
      ∙ length_padded 20 0 (task_of task).arities right.few_predicates

  pub predicates_inside : task.predicates.count ≤ length task.predicates.arities
  predicates_inside = omega (arith, predicates_few, arities_size)

  pub objects_few : task.objects ≤ 64
  unfolding task_of
  objects_few = right.few_objects

  -- the schemas
  pub schema_count : task.schemas.count ≡ length (task_of task).schemas
  unfolding task_for schemas_for
  schema_count = ap (λ (x : Task). x.schemas.count) r.stands

  pub schemas_few : task.schemas.count ≤ 32
  schemas_few = omega (arith, schema_count, right.few_schemas)

  schemas_size : length task.schemas.schemas ≡ 32
  unfolding task_for schemas_for
  schemas_size =
      ap (λ (x : Task). length x.schemas.schemas) r.stands
      ∙ length_padded 32 blank_schema (map schema_for (task_of task).schemas) (omega (arith, length-map (task_of task).schemas schema_for, right.few_schemas))

  pub schemas_inside : task.schemas.count ≤ length task.schemas.schemas
  schemas_inside = omega (arith, schemas_few, schemas_size)

  -- the facts
  pub fact_count_lem : task.facts.count ≡ length (task_of task).facts
  unfolding task_for facts_for
  fact_count_lem = ap (λ (x : Task). x.facts.count) r.stands

  pub facts_few : task.facts.count ≤ 512
  facts_few = omega (arith, fact_count_lem, right.few_facts)

  pub facts_size : length task.facts.facts ≡ 512
  unfolding task_for facts_for
  facts_size =
      ap (λ (x : Task). length x.facts.facts) r.stands
      ∙ length_padded 512 blank_atom (map atom_for (task_of task).facts) (omega (arith, length-map (task_of task).facts atom_for, right.few_facts))

  pub facts_inside : task.facts.count ≤ length task.facts.facts
  facts_inside = omega (arith, facts_few, facts_size)
