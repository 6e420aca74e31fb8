-- A law for each return.
use Rattle.std.proofs.Common.{◌≡◌, true, rules, tests}
use Rattle.std.proofs.lemmas.Result.{err_from_is_err_and}
use Rattle.model.specs.Card.{between}
use Rattle.writer_checks.proofs.TaskLaws.{wrong_objects, many_schemas, schemas_refused, many_facts, few_facts}
use Rattle.writer_checks.proofs.checking.check_rest.Goals as goal

pub returns-then-not-contains : goal.returns-then-not-contains
unfolding between
returns-then-not-contains c = wrong_objects _ _ _ _ (search (rules, tests))

pub returns-then-schemas-gt32 : goal.returns-then-schemas-gt32
unfolding between
returns-then-schemas-gt32 c =
    let objects : true ≡ between 1 64 c.args.objects = search (rules, tests) in
    many_schemas _ _ _ _ objects c.if-schemas-gt32.true

pub returns-in_err-check_schemas : goal.returns-in_err-check_schemas
unfolding between
returns-in_err-check_schemas c =
    let objects : true ≡ between 1 64 c.args.objects = search (rules, tests) in
    let p = err_from_is_err_and c.from_residual.result c.from_residual.ensures.1 in
    rw (p.1, p.2) (schemas_refused _ _ _ _ objects c.if-schemas-gt32.false _ c.in_err-check_schemas.ensures)

pub returns-then-facts-gt512 : goal.returns-then-facts-gt512
unfolding between
returns-then-facts-gt512 c =
    let objects : true ≡ between 1 64 c.args.objects = search (rules, tests) in
    many_facts _ _ _ _ objects c.if-schemas-gt32.false _ c.in_ok-check_schemas.ensures c.if-facts-gt512.true

pub returns : goal.returns
unfolding between
returns c =
    let objects : true ≡ between 1 64 c.args.objects = search (rules, tests) in
    few_facts _ _ _ _ objects c.if-schemas-gt32.false _ c.in_ok-check_schemas.ensures c.if-facts-gt512.false _ c.check_facts.ensures
