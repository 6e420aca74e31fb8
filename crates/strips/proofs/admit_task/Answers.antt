-- 15 and 16, then the rest with the schema.
use Rattle.std.proofs.Common.{ℕ, List, arith}
use Rattle.std.proofs.lemmas.Result.{err_from_is_err_and}
use Rattle.model.specs.Strips.{Action}
use Rattle.card.proofs.Counts.{predicates_inside}
use Rattle.strips.specs.Answers.{press_number}
use Rattle.strips.proofs.Tasks.{schema_below}
use Rattle.strips.proofs.Admitting.{refusing, granting}
use Rattle.strips.proofs.Pressing.{part_right, refused_malformed, refused_unknown, state_kept, schema_kept, refused_schema, schema_passed, schema_granted}
use Rattle.strips.proofs.admit_task.Goals as goal

-- the action that is asked for
abbrev action : ℕ → List ℕ → Action
action number objects = record { schema = number; objects = objects }

pub slice_bounds-arities-end : goal.slice_bounds-arities-end
slice_bounds-arities-end c = predicates_inside _ c.requires

pub well_formed-requires : goal.well_formed-requires
well_formed-requires c = part_right _ c.requires

pub returns-then-not-well_formed : goal.returns-then-not-well_formed
unfolding press_number
returns-then-not-well_formed c = refusing (refused_malformed _ c.requires _ _ _ c.well_formed-2.ensures c.if-not-well_formed.true)

pub returns-then-task-number : goal.returns-then-task-number
unfolding press_number
returns-then-task-number c =
    refusing (refused_unknown _ c.requires _ _ _ c.well_formed-2.ensures c.if-not-well_formed.false c.if-task-number.true)

pub offset_bounds-task-number : goal.offset_bounds-task-number
offset_bounds-task-number c = omega (arith, schema_below _ c.requires _ c.if-task-number.false)

pub bounds-task-number : goal.bounds-task-number
bounds-task-number c = schema_below _ c.requires _ c.if-task-number.false

pub admit_schema-requires : goal.admit_schema-requires
admit_schema-requires c =
    let a = action c.args.number c.args.objects.now in (
      state_kept _ c.requires _ _ a c.well_formed-2.ensures c.if-not-well_formed.false,
      schema_kept _ c.requires _ _ a c.well_formed-2.ensures c.if-not-well_formed.false _ c.if-task-number.false,
    )

pub returns-in_err-admit_schema : goal.returns-in_err-admit_schema
returns-in_err-admit_schema c =
    let a = action c.args.number c.args.objects.now in
    let p = err_from_is_err_and c.from_residual.result c.from_residual.ensures.1 in
    rw (p.1, p.2)
    (refusing
    (refused_schema _ c.requires _ _ a c.well_formed-2.ensures c.if-not-well_formed.false _ c.if-task-number.false _ c.in_err-admit_schema.ensures))

pub returns : goal.returns
returns c =
    let a = action c.args.number c.args.objects.now in
    granting
    (schema_passed _ c.requires _ _ a c.well_formed-2.ensures c.if-not-well_formed.false _ c.if-task-number.false c.in_ok-admit_schema.ensures)
    (schema_granted _ c.requires _ _ a c.well_formed-2.ensures c.if-not-well_formed.false _ c.if-task-number.false c.in_ok-admit_schema.ensures)
