-- Each turn checks one fact, and what is left to check stays the answer.
use Rattle.std.proofs.Common.{◌≡◌, length, arith, refl, rules}
use Rattle.std.proofs.lemmas.Result.{err_from_is_err_and}
use Rattle.model.specs.Writer.{check_fact}
use Rattle.card.specs.Represents.{blank_atom, refusal_number}
use Rattle.card.proofs.Entries.{facts_within}
use Rattle.writer_checks.specs.Checking.{previous, check_ordered}
use Rattle.writer_checks.proofs.Loops.{item_refused, item_passed, items_passed}
use Rattle.writer_checks.proofs.checking.check_facts.Goals as goal

pub loop-f-init : goal.loop-f-init
unfolding previous
loop-f-init c = refl

pub returns-in_err-check_atom : goal.returns-in_err-check_atom
unfolding check_fact check_ordered refusal_number blank_atom
returns-in_err-check_atom c =
    let there : length c.args.list.facts ≡ 512 = search rules in
    let p = err_from_is_err_and c.from_residual.result c.from_residual.ensures.1 in
    rw (p.1, p.2, facts_within c.args.arities.now c.args.list (omega arith))
    (item_refused _ _ _ _ _ c.loop-f.invariant blank_atom c.loop-f-test.true _ c.in_err-check_atom.ensures)

pub loop-f-preserved : goal.loop-f-preserved
unfolding check_fact check_ordered refusal_number blank_atom previous
loop-f-preserved c = item_passed _ _ _ _ _ c.loop-f.invariant blank_atom c.loop-f-test.true _ c.in_ok-check_atom.ensures

pub returns : goal.returns
returns c =
    let there : length c.args.list.facts ≡ 512 = search rules in
    rw (facts_within c.args.arities.now c.args.list (omega arith)) (items_passed _ _ _ _ _ c.loop-f.invariant _ c.loop-f-test.false)
