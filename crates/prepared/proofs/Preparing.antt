-- Tables that are filled from a task hold it, and its spaces are those of the tables.
use Prim.Native.Nat.{ℕ, ◌≤◌}
use native.Mathlib.Omega.{arith}
use mathlib.Core.Path.{◌≡◌, sym, subst}
use mathlib.Core.List.{List}
use lib.ListN.{length}
use Rattle.model.specs.Card as model
use Rattle.model.specs.Transitions.{properties, properties_from}
use Rattle.model.proofs.Checked.{checked}
use Rattle.model.proofs.RuleCount.{properties_few}
use Rattle.card.specs.declared.Task.{Task}
use Rattle.card.specs.Represents.{task_of, arities_of, schemas_of, facts_of, Represented}
use Rattle.properties.specs.declared.Numbering.{Numbering}
use Rattle.properties.specs.Represented.{Numbers, object_bags}
use Rattle.properties.specs.Tables.{rows_before}
use Rattle.properties.specs.Parameters.{parameters_in, bags_over, RoomForBags, ParameterTables}
use Rattle.spaces.specs.declared.Spaces.{Spaces}
use Rattle.spaces.specs.SpaceTable.{spaces_in, SpacesOf}
use Rattle.spaces.specs.Tabled.{TablesOf}
use Rattle.spaces.proofs.Held.{tables_held}
use Rattle.spaces.proofs.Found.{spaces_of_task}

-- tables that are filled from a task's lists are the task's
module _ (task : Task) where
  pub tables_are : {count : ℕ} {preconditions deletes adds p d a : List ℕ}
      → ParameterTables (properties_from 0 (arities_of task.predicates)) (schemas_of (arities_of task.predicates) task.schemas) count
      preconditions deletes adds p d a
      → ParameterTables (properties (task_of task)) (task_of task).schemas count preconditions deletes adds p d a
  unfolding task_of properties
  tables_are written = written

  pub bags_are : (counts : List ℕ) {c : List ℕ}
      → c ≡ rows_before (bags_over (properties_from 0 (arities_of task.predicates)) (facts_of (arities_of task.predicates) task.facts) task.objects)
      counts
      → c ≡ rows_before (object_bags (task_of task)) counts
  unfolding task_of properties object_bags
  bags_are counts bags = bags

-- the properties are counted
pub properties_counted : (task : Task) {r : Numbering} → Numbers (arities_of task.predicates) r → r.count ≡ length (properties (task_of task))
unfolding task_of properties
properties_counted task n = n.counted

module _ (task : Task) (r : Represented task (task_of task)) {count size : ℕ} {preconditions deletes adds p d a c : List ℕ} (counts : List ℕ)
    (written : ParameterTables (properties (task_of task)) (task_of task).schemas count preconditions deletes adds p d a)
    (bags : c ≡ rows_before (object_bags (task_of task)) counts)
    (counted : size ≡ length (properties (task_of task))) where
  abbrev t : model.Task
  t = task_of task

  few : length (properties t) ≤ 60
  few = properties_few t r.checked

  -- few properties and objects, and room for the parameters
  pub sizes_few : (size ≤ 60) × (task.objects ≤ 64)
  unfolding task_of
  sizes_few = (omega (arith, counted, few), (checked t r.checked).few_objects)

  pub room_for : RoomForBags (parameters_in t.schemas) preconditions deletes adds → length p ≡ length preconditions → length d ≡ length deletes
      → length a ≡ length adds → RoomForBags count p d a
  room_for room k l m = record {
    preconditions_room = omega (arith, room.preconditions_room, written.counted);
    deletes_room = omega (arith, room.deletes_room, written.counted);
    adds_room = omega (arith, room.adds_room, written.counted);
  }

  -- the tables hold the task
  holds : TablesOf t size count task.objects p d a c
  unfolding task_of
  holds = subst (λ (n : ℕ). TablesOf t n count t.objects p d a c) (sym counted) (tables_held t few counts written bags)

  -- and its spaces are found in them
  pub spaces_are : {found : Spaces} → found ≡ spaces_in size count task.objects p d a c → RoomForBags count p d a → SpacesOf t found
  spaces_are is room = subst (SpacesOf t) (sym is) (spaces_of_task holds sizes_few.0 room)
