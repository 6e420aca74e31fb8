-- Each turn checks one atom, and what is left to check stays the answer.
use Rattle.std.proofs.Common.{◌≡◌, length, arith, refl, rules}
use Rattle.std.proofs.lemmas.Result.{err_from_is_err_and}
use Rattle.card.specs.Represents.{blank_atom}
use Rattle.card.proofs.Entries.{atoms_within}
use Rattle.writer_checks.specs.Checking.{previous}
use Rattle.writer_checks.proofs.Loops.{item_refused, item_passed, items_passed}
use Rattle.writer_checks.proofs.checking.check_atoms.Goals as goal

pub loop-a-init : goal.loop-a-init
unfolding previous
loop-a-init c = refl

pub returns-in_err-check_schema_atom : goal.returns-in_err-check_schema_atom
unfolding blank_atom
returns-in_err-check_schema_atom c =
    let there : length c.args.list.atoms ≡ 8 = search rules in
    let p = err_from_is_err_and c.from_residual.result c.from_residual.ensures.1 in
    rw (p.1, p.2, atoms_within c.args.arities.now c.args.list (omega arith))
    (item_refused _ _ _ _ _ c.loop-a.invariant blank_atom c.loop-a-test.true _ c.in_err-check_schema_atom.ensures)

pub loop-a-preserved : goal.loop-a-preserved
unfolding blank_atom previous
loop-a-preserved c = item_passed _ _ _ _ _ c.loop-a.invariant blank_atom c.loop-a-test.true _ c.in_ok-check_schema_atom.ensures

pub returns : goal.returns
returns c =
    let there : length c.args.list.atoms ≡ 8 = search rules in
    rw (atoms_within c.args.arities.now c.args.list (omega arith)) (items_passed _ _ _ _ _ c.loop-a.invariant _ c.loop-a-test.false)
