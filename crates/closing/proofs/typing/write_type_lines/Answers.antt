-- A schema more, and its lines.
use Rattle.std.proofs.Common.{ℕ, ◌≡◌, ◌<◌, List, length, arith, sym, subst}
use lib.Seq.{get_or-take}
use Rattle.model.specs.Transitions.{properties, properties_from}
use Rattle.model.proofs.RuleCount.{properties_few}
use Rattle.card.specs.declared.Task.{Task}
use Rattle.card.specs.Represents.{task_of, arities_of, Represented}
use Rattle.card.proofs.Counts.{objects_few, schemas_few}
use Rattle.card.proofs.Entries.{no_schema}
use Rattle.properties.proofs.ParameterRows.{count_start}
use Rattle.properties.proofs.TaskParts.{arities_right}
use Rattle.spaces.specs.declared.Spaces.{Spaces}
use Rattle.spaces.specs.SpaceTable.{SpacesOf}
use Rattle.text.proofs.Writing.{start, next_fits, next, finish}
use Rattle.closing.specs.Typing.{label_masks, MembersGiven, PreconditionRows}
use Rattle.closing.proofs.SchemaLines.{TypesGiven, parameters_next, rows_within, rows_few, schema_next, schemas_end}
use Rattle.closing.proofs.TypedObjects.{spaces_few, lowest_known, members_given}
use Rattle.closing.proofs.typing.write_type_lines.Goals as goal

-- what the loop is given
module _ (task : Task) (spaces : Spaces) (masks : List ℕ) (size : ℕ) (preconditions : List ℕ) (r : Represented task (task_of task))
    (spaces_are : SpacesOf (task_of task) spaces) (masks_are : masks ≡ label_masks spaces.lowest spaces.members spaces.count)
    (size_is : size ≡ length (properties_from 0 (arities_of task.predicates))) (rows_are : PreconditionRows (task_of task) preconditions) where
  given : TypesGiven task spaces masks size preconditions
  unfolding task_of properties
  given = record { represented = r; spaces_are = spaces_are; masks_are = masks_are; size_is = size_is; rows_are = rows_are }

  -- the members of the spaces as they are handed on
  members : MembersGiven size spaces.groups masks task.objects
  unfolding task_of
  members =
      subst (λ (n : ℕ). MembersGiven n spaces.groups masks task.objects) (sym given.size_is)
      (subst (λ (m : List ℕ). MembersGiven (length (properties (task_of task))) spaces.groups m task.objects) (sym masks_are)
      (members_given _ _ spaces_are (properties_few _ r.checked) (objects_few _ r)))

pub numbered-numbers-requires : goal.numbered-numbers-requires
numbered-numbers-requires c = (arities_right c.args.task c.requires.represented).few

pub by_label-masks-requires : goal.by_label-masks-requires
by_label-masks-requires c =
    let narrow = properties_few (task_of c.args.task) c.requires.represented.checked in
    (spaces_few _ c.args.spaces c.requires.spaces_of narrow, lowest_known _ c.args.spaces c.requires.spaces_of narrow)

pub shared_ref_as_front-schema-items : goal.shared_ref_as_front-schema-items
shared_ref_as_front-schema-items c = schemas_few _ c.requires.represented

pub loop-i-init : goal.loop-i-init
loop-i-init c = record { remains = start c.requires.room; counted = count_start _ }

pub write_schema_types-at-requires-clause-members_given : goal.write_schema_types-at-requires-clause-members_given
write_schema_types-at-requires-clause-members_given c =
    members c.args.task c.args.spaces c.by_label-masks.result c.numbered-numbers.result.count c.args.preconditions.now c.requires.represented
    c.requires.spaces_of c.by_label-masks.ensures c.numbered-numbers.ensures.counted c.requires.precondition_rows

pub write_schema_types-at-requires-clause-parameters_in_bounds : goal.write_schema_types-at-requires-clause-parameters_in_bounds
write_schema_types-at-requires-clause-parameters_in_bounds c =
    let l = c.args.task.schemas in
    let more : c.loop-i.i < l.count = omega arith in
    let g = given c.args.task c.args.spaces c.by_label-masks.result c.numbered-numbers.result.count c.args.preconditions.now c.requires.represented
    c.requires.spaces_of c.by_label-masks.ensures c.numbered-numbers.ensures.counted c.requires.precondition_rows in
    rw (get_or-take l.count l.schemas c.loop-i.i no_schema more) (rows_within g c.loop-i.invariant.counted no_schema more)

pub write_schema_types-at-requires-clause-room : goal.write_schema_types-at-requires-clause-room
write_schema_types-at-requires-clause-room c =
    let l = c.args.task.schemas in
    let more : c.loop-i.i < l.count = omega arith in
    let g = given c.args.task c.args.spaces c.by_label-masks.result c.numbered-numbers.result.count c.args.preconditions.now c.requires.represented
    c.requires.spaces_of c.by_label-masks.ensures c.numbered-numbers.ensures.counted c.requires.precondition_rows in
    rw (get_or-take l.count l.schemas c.loop-i.i no_schema more)
    (next_fits c.loop-i.invariant.remains (schema_next g c.loop-i.invariant.counted no_schema more))

pub overflow_add-first : goal.overflow_add-first
overflow_add-first c =
    let l = c.args.task.schemas in
    let more : c.loop-i.i < l.count = omega arith in
    let g = given c.args.task c.args.spaces c.by_label-masks.result c.numbered-numbers.result.count c.args.preconditions.now c.requires.represented
    c.requires.spaces_of c.by_label-masks.ensures c.numbered-numbers.ensures.counted c.requires.precondition_rows in
    rw (get_or-take l.count l.schemas c.loop-i.i no_schema more) (omega (arith, rows_few g c.loop-i.invariant.counted no_schema more))

pub loop-i-preserved : goal.loop-i-preserved
loop-i-preserved c =
    let l = c.args.task.schemas in
    let more : c.loop-i.i < l.count = omega arith in
    let g = given c.args.task c.args.spaces c.by_label-masks.result c.numbered-numbers.result.count c.args.preconditions.now c.requires.represented
    c.requires.spaces_of c.by_label-masks.ensures c.numbered-numbers.ensures.counted c.requires.precondition_rows in
    let here = get_or-take l.count l.schemas c.loop-i.i no_schema more in
    let written = rw here at c.write_schema_types-at.ensures in
    record {
      remains = next c.loop-i.invariant.remains (schema_next g c.loop-i.invariant.counted no_schema more) written;
      counted = rw here (parameters_next g c.loop-i.invariant.counted no_schema more);
    }

pub returns : goal.returns
returns c =
    let g = given c.args.task c.args.spaces c.by_label-masks.result c.numbered-numbers.result.count c.args.preconditions.now c.requires.represented
    c.requires.spaces_of c.by_label-masks.ensures c.numbered-numbers.ensures.counted c.requires.precondition_rows in
    let few = schemas_few _ c.requires.represented in
    finish c.loop-i.invariant.remains (schemas_end g (omega arith))
