-- 15, then the given action and the rest of its schema, then the schemas after it; with none given all schemas.
use Rattle.std.proofs.Common.{refl, sym, ◌∙◌, arith}
use Rattle.std.proofs.lemmas.Result.{err_from_is_err_and}
use Rattle.card.proofs.Counts.{predicates_inside}
use Rattle.strips.proofs.Pressing.{part_right}
use Rattle.open_actions.proofs.OverSchemas.{schemas_ready, says_among, end_now, given_small}
use Rattle.open_actions.proofs.Answering.{state_refused, task_ready, first_answered, given_refused, next_answered, later_answered}
use Rattle.open_actions.proofs.next_open_of.Goals as goal

pub slice_bounds-arities-end : goal.slice_bounds-arities-end
slice_bounds-arities-end c = predicates_inside _ c.requires

pub well_formed-requires : goal.well_formed-requires
well_formed-requires c = part_right _ c.requires

pub returns-then-not-well_formed : goal.returns-then-not-well_formed
returns-then-not-well_formed c = state_refused c.requires _ _ c.well_formed-2.ensures _ c.if-not-well_formed.true

pub invariant_of-queries : goal.invariant_of-queries
invariant_of-queries c = record {
  ready = schemas_ready (task_ready c.requires _ _ c.well_formed-2.ensures c.if-not-well_formed.false);
}

pub invariant_of-queries-2 : goal.invariant_of-queries-2
invariant_of-queries-2 c = record {
  ready = schemas_ready (task_ready c.requires _ _ c.well_formed-2.ensures c.if-not-well_formed.false);
}

pub returns-in_err-next : goal.returns-in_err-next
returns-in_err-next c =
    let p = err_from_is_err_and c.from_residual.result c.from_residual.ensures.1 in
    rw (p.1, p.2) (given_refused (task_ready c.requires _ _ c.well_formed-2.ensures c.if-not-well_formed.false) _ c.in-Some.is c.in_err-next.ensures)

pub returns-then-is_some : goal.returns-then-is_some
returns-then-is_some c =
    next_answered (task_ready c.requires _ _ c.well_formed-2.ensures c.if-not-well_formed.false) _ c.in-Some.is c.in_ok-next.ensures
    (sym c.is_some.ensures ∙ c.if-is_some.true)

pub overflow_add-number : goal.overflow_add-number
overflow_add-number c =
    let ready = task_ready c.requires _ _ c.well_formed-2.ensures c.if-not-well_formed.false in
    omega (arith, given_small ready _ (end_now ready _ c.in_ok-next.ensures (sym c.is_some.ensures ∙ c.if-is_some.false)))

pub returns : goal.returns
returns c =
    let ready = task_ready c.requires _ _ c.well_formed-2.ensures c.if-not-well_formed.false in
    later_answered ready _ c.in-Some.is c.in_ok-next.ensures (sym c.is_some.ensures ∙ c.if-is_some.false) refl
    (says_among ready c.open_among-later.ensures)

pub returns-in_default : goal.returns-in_default
returns-in_default c =
    let ready = task_ready c.requires _ _ c.well_formed-2.ensures c.if-not-well_formed.false in
    first_answered ready _ c.in_default.is refl (says_among ready c.open_among-all.ensures)
