-- The order first, then the check of the atom's own list.
use Rattle.std.proofs.Common.{◌≡◌, ℕ, Bool, List}
use Rattle.std.proofs.Math.Option.{Option}
use Rattle.std.proofs.lemmas.Result.{err_from_is_err_and}
use Rattle.model.specs.Answer.{◌>>◌, need}
use Rattle.model.specs.Card as model
use Rattle.model.specs.Writer.{known, check_schema_atom}
use Rattle.card.specs.Represents.{refusal_number}
use Rattle.writer_checks.specs.Checking.{check_ordered}
use Rattle.writer_checks.proofs.Sequence.{then_assoc, then_refused, then_passed}
use Rattle.writer_checks.proofs.checking.check_schema_atom.Goals as goal

split : (arities : List ℕ) (parameters : ℕ) (test : model.Atom → Bool) (number : ℕ) (before : Option model.Atom) (a : model.Atom)
    → check_schema_atom arities parameters test number before a ≡ check_ordered arities parameters 7 8 before a >> need (test a) number
unfolding check_schema_atom check_ordered
split arities parameters test number before a =
    then_assoc (need (known arities parameters a) 7) (need (model.above before a) 8) (need (test a) number)

pub returns-in_err-check_atom : goal.returns-in_err-check_atom
unfolding refusal_number
returns-in_err-check_atom c =
    let p = err_from_is_err_and c.from_residual.result c.from_residual.ensures.1 in
    rw (split, p.1, p.2) (then_refused _ _ c.in_err-check_atom.ensures)

pub returns : goal.returns
unfolding refusal_number
returns c = rw split (then_passed _ c.in_ok-check_atom.ensures c.check_field.ensures)
