-- A law for each return.
use Rattle.std.proofs.Common.{◌≡◌, ◌≤◌, true, length, sym, rules, tests}
use Rattle.model.specs.Card.{between}
use Rattle.card.proofs.Entries.{arities_within}
use Rattle.writer_checks.proofs.TaskLaws.{wrong_count, bad_arity, good_arities}
use Rattle.writer_checks.proofs.checking.check_task.Goals as goal

pub returns-then-not-contains : goal.returns-then-not-contains
unfolding between
returns-then-not-contains c = wrong_count _ (search (rules, tests))

pub returns-then-not-arities_within : goal.returns-then-not-arities_within
unfolding between
returns-then-not-arities_within c =
    let count : true ≡ between 1 20 c.args.task.predicates.count = search (rules, tests) in
    let within : c.args.task.predicates.count ≤ length c.args.task.predicates.arities = search (rules, tests) in
    bad_arity _ count _ (sym (arities_within c.args.task.predicates within)) c.if-not-arities_within.ensures

pub returns : goal.returns
unfolding between
returns c =
    let count : true ≡ between 1 20 c.args.task.predicates.count = search (rules, tests) in
    let within : c.args.task.predicates.count ≤ length c.args.task.predicates.arities = search (rules, tests) in
    good_arities _ count _ (sym (arities_within c.args.task.predicates within)) c.if-not-arities_within.ensures _ c.check_rest.ensures
