-- 16, 17 and 18, then the rest of the schema.
use Rattle.std.proofs.Common.{sym, ◌∙◌}
use Rattle.model.proofs.OpenActions.{action_of}
use Rattle.open_actions.proofs.Answering.{same_parameters, schema_refused_lem, number_refused, object_refused, repeat_refused, binding_ready, given_answered}
use Rattle.open_actions.proofs.query.Queries.after_given.Goals as goal
use Rattle.open_actions.proofs.query.Queries.after_given.Goals.{then-objects-query-via-then-objects-query, then-objects-query-via-else-objects-query+then-not-all_known}

pub returns-then-self-number : goal.returns-then-self-number
returns-then-self-number c = schema_refused_lem c.args.self.now.ready (action_of c.args.number c.args.objects.now) c.if-self-number.true

pub returns-then-objects-query : goal.returns-then-objects-query
returns-then-objects-query c =
    let given = action_of c.args.number c.args.objects.now in
    elim c.then-objects-query.branch [
      | then-objects-query-via-then-objects-query w ↦ number_refused c.args.self.now.ready given c.if-self-number.false (rw (same_parameters _ _ _ _ _ _ c.query-query.ensures) at w.if-objects-query.true)
      | then-objects-query-via-else-objects-query+then-not-all_known w ↦
          object_refused c.args.self.now.ready given c.if-self-number.false (sym w.all_known.ensures ∙ w.if-not-all_known.true)
    ]

pub returns-then-not-all_different : goal.returns-then-not-all_different
returns-then-not-all_different c =
    repeat_refused c.args.self.now.ready (action_of c.args.number c.args.objects.now) c.if-self-number.false (rw (same_parameters _ _ _ _ _ _ c.query-query.ensures) at c.if-objects-query.false)
    (sym c.all_known.ensures ∙ c.if-not-all_known.false) (sym c.all_different.ensures ∙ c.if-not-all_different.true)

pub rest_of_schema-rest-requires : goal.rest_of_schema-rest-requires
rest_of_schema-rest-requires c =
    rw c.query-query.ensures
    (binding_ready c.args.self.now.ready (action_of c.args.number c.args.objects.now) c.if-self-number.false (rw (same_parameters _ _ _ _ _ _ c.query-query.ensures) at c.if-objects-query.false)
    (sym c.all_known.ensures ∙ c.if-not-all_known.false))

pub returns : goal.returns
returns c =
    given_answered c.args.self.now.ready (action_of c.args.number c.args.objects.now) c.if-self-number.false (rw (same_parameters _ _ _ _ _ _ c.query-query.ensures) at c.if-objects-query.false)
    (sym c.all_known.ensures ∙ c.if-not-all_known.false) (sym c.all_different.ensures ∙ c.if-not-all_different.false)
    (rw c.query-query.ensures at c.rest_of_schema-rest.ensures)
