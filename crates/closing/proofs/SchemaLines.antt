-- The R lines of a task, schema by schema: those of the schemas that are left.
use Prim.Native.Nat.{ℕ, ◌+◌, ◌*◌, ◌≤◌, ◌<◌}
use native.Mathlib.Nat.{le_trans}
use native.Mathlib.Numerals.{add-one}
use native.Mathlib.Omega.{arith}
use mathlib.Core.Path.{◌≡◌, sym, ap, ◌∙◌}
use mathlib.Core.List.{List, [], ◌++◌, map, flat_map}
use lib.ListN.{length, get_or, drop, drop_of_length-le}
use lib.Seq.{drop-cons}
use Rattle.laws.specs.Lists.{up_to}
use Rattle.model.specs.Card.{Task, Schema}
use Rattle.model.specs.Spaces.{spaces}
use Rattle.model.specs.Lines.{Line, types_of, type_lines}
use Rattle.model.specs.Text.{text}
use Rattle.model.specs.Transitions.{properties}
use Rattle.model.proofs.RuleCount.{properties_few}
use Rattle.card.specs.declared.Task as code
use Rattle.card.specs.declared.Schema as code_schema
use Rattle.card.specs.Represents.{arities_of, schema_of, task_of, Represented}
use Rattle.card.proofs.Counts.{objects_few, schema_count}
use Rattle.properties.specs.Parameters.{parameters_in}
use Rattle.properties.proofs.TaskParts.{schema_at_lem}
use Rattle.properties.proofs.ParameterRows as rows
use Rattle.properties.proofs.ParameterRows.{sizes_of, sizes_long, size_at, Counted, count_next, count_within}
use Rattle.spaces.specs.declared.Spaces as code_spaces
use Rattle.spaces.specs.SpaceTable.{SpacesOf}
use Rattle.text.proofs.Writing.{Begins}
use Rattle.closing.specs.Typing.{label_masks, typed_lines, PreconditionRows}
use Rattle.closing.proofs.LineLoops.{text_parts}
use Rattle.closing.proofs.TypedObjects.{typed_lines_lem}

-- the lines of the schemas from number i on
abbrev pub schemas_left : Task → ℕ → List ℕ
schemas_left t i = text (type_lines t (spaces t) i (drop i t.schemas))

-- those of the next schema, and those of the others
next_schema : (t : Task) (i : ℕ) (d : Schema) → i < length t.schemas
    → text (map (types_of t (spaces t) i (get_or t.schemas i d)) (up_to (get_or t.schemas i d).parameters)) ++ schemas_left t (i + 1)
    ≡ schemas_left t i
unfolding type_lines
next_schema t i d h =
    ap (λ (n : ℕ). text (map (types_of t (spaces t) i (get_or t.schemas i d)) (up_to (get_or t.schemas i d).parameters)) ++ schemas_left t n) (add-one i)
    ∙ sym (text_parts _ _).path
    ∙ ap (λ (l : List Schema). text (type_lines t (spaces t) i l)) (sym (drop-cons t.schemas i d h))

-- What the loop is given: the task's spaces, the members at their labels, and the rows of preconditions.
pub record TypesGiven (task : code.Task) (sp : code_spaces.Spaces) (masks : List ℕ) (size : ℕ) (preconditions : List ℕ) : Type 0 where
  pub represented : Represented task (task_of task)
  pub spaces_are : SpacesOf (task_of task) sp
  pub masks_are : masks ≡ label_masks sp.lowest sp.members sp.count
  pub size_is : size ≡ length (properties (task_of task))
  pub rows_are : PreconditionRows (task_of task) preconditions

module _ {task : code.Task} {sp : code_spaces.Spaces} {masks : List ℕ} {size : ℕ} {preconditions : List ℕ}
    (given : TypesGiven task sp masks size preconditions) {i : ℕ} where
  -- the lines of the next schema as the code finds them
  module _ {first : ℕ} (counted : Counted (sizes_of (task_of task).schemas) i first) (d : code_schema.Schema) (h : i < task.schemas.count) where
    blank : Schema
    blank = schema_of (arities_of task.predicates) d

    parameters : ℕ
    parameters = (get_or task.schemas.schemas i d).parameters

    here : i < length (task_of task).schemas
    here = omega (arith, h, schema_count task given.represented)

    same : (get_or (task_of task).schemas i blank).parameters ≡ parameters
    unfolding schema_of blank parameters
    same = ap (λ (s : Schema). s.parameters) (schema_at_lem task given.represented i d h)

    long : i < length (sizes_of (task_of task).schemas)
    long = sizes_long _ here

    size_is : parameters ≡ get_or (sizes_of (task_of task).schemas) i 0
    size_is = sym same ∙ size_at _ blank here

    -- the parameters up to it, and its rows
    pub parameters_next : Counted (sizes_of (task_of task).schemas) (i + 1) (first + (get_or task.schemas.schemas i d).parameters)
    unfolding parameters
    parameters_next = count_next _ counted long size_is

    within : first + (get_or task.schemas.schemas i d).parameters ≤ parameters_in (task_of task).schemas
    unfolding parameters parameters_in sizes_of
    within = count_within _ counted long size_is

    pub rows_within : 60 * (first + (get_or task.schemas.schemas i d).parameters) ≤ length preconditions
    rows_within = omega (arith, within, given.rows_are.rows_there)

    pub rows_few : first + (get_or task.schemas.schemas i d).parameters ≤ 192
    rows_few = le_trans within (rows.rows_few (task_of task) given.represented.checked)

    pub schema_next : Begins (schemas_left (task_of task) i)
        (text
        (typed_lines size sp.groups masks task.objects preconditions i first (get_or task.schemas.schemas i d).parameters))
        (schemas_left (task_of task) (i + 1))
    unfolding task_of parameters
    schema_next = record {
      path =
          sym (next_schema (task_of task) i blank here)
          ∙ ap (λ (l : List Line). text l ++ schemas_left (task_of task) (i + 1))
          (sym
          (typed_lines_lem (task_of task) sp given.spaces_are (properties_few (task_of task) given.represented.checked)
          (objects_few task given.represented) given.rows_are i blank here counted.is)
          ∙ (λ j.
          typed_lines (sym given.size_is j) sp.groups (sym given.masks_are j) task.objects preconditions i first (same j)));
    }

  pub schemas_end : task.schemas.count ≤ i → schemas_left (task_of task) i ≡ []
  unfolding type_lines text flat_map
  schemas_end h =
      ap (λ (l : List Schema). text (type_lines (task_of task) (spaces (task_of task)) i l))
      (drop_of_length-le (task_of task).schemas {i = i} (omega (arith, schema_count task given.represented)))
