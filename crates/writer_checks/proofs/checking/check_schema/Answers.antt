-- A law for each return.
use Rattle.std.proofs.lemmas.Result.{err_from_is_err_and}
use Rattle.std.proofs.Common.{rules, tests, ◌≡◌, true}
use Rattle.model.specs.Card.{between}
use Rattle.writer_checks.proofs.SchemaLaws.{wrong_header, preconditions_refused, preconditions_short, deletes_refused, deletes_passed}
use Rattle.writer_checks.proofs.checking.check_schema.Goals as goal

pub returns-then-not-contains : goal.returns-then-not-contains
unfolding between
returns-then-not-contains c = wrong_header _ _ (search (rules, tests))

pub returns-in_err-check_list : goal.returns-in_err-check_list
unfolding between
returns-in_err-check_list c =
    let header : true ≡ between 1 6 c.args.s.parameters = search (rules, tests) in
    let p = err_from_is_err_and c.from_residual.result c.from_residual.ensures.1 in
    rw (p.1, p.2) (preconditions_refused _ _ header _ c.in_err-check_list.ensures)

pub check_list-requires-2 : goal.check_list-requires-2
check_list-requires-2 c short = preconditions_short c.args.arities.now c.args.s _ c.in_ok-check_list.ensures

pub returns-in_err-check_list-2 : goal.returns-in_err-check_list-2
unfolding between
returns-in_err-check_list-2 c =
    let header : true ≡ between 1 6 c.args.s.parameters = search (rules, tests) in
    let p = err_from_is_err_and c.from_residual-in_err-check_list-2.result c.from_residual-in_err-check_list-2.ensures.1 in
    rw (p.1, p.2) (deletes_refused _ _ header _ c.in_ok-check_list.ensures _ c.in_err-check_list-2.ensures)

pub check_list-requires-3 : goal.check_list-requires-3
check_list-requires-3 c short = preconditions_short c.args.arities.now c.args.s _ c.in_ok-check_list.ensures

pub returns : goal.returns
unfolding between
returns c =
    let header : true ≡ between 1 6 c.args.s.parameters = search (rules, tests) in
    deletes_passed _ _ header _ c.in_ok-check_list.ensures _ c.in_ok-check_list-2.ensures _ c.check_list-3.ensures
