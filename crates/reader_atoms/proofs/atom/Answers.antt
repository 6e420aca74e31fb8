-- `atom` reads as the definition does.
use borrow.Author.Tests.{ltb-true}
use Rattle.model.proofs.Checked.{arity_within}
use Rattle.reader_bytes.proofs.Answers.{byte_that_held}
use Rattle.reader_bytes.proofs.Reading.{hands_on}
use Rattle.reader_atoms.proofs.ArgumentBytes.{predicate_refused, predicate_read}
use Rattle.reader_atoms.proofs.atom.Goals as goal

pub returns-in_err-predicate : goal.returns-in_err-predicate
returns-in_err-predicate c = hands_on _ _ c.from_residual.ensures.1 (predicate_refused _ _ _ _ c.in_err-predicate.ensures.says)

pub bounds-arities-from : goal.bounds-arities-from
bounds-arities-from c = rw c.from.ensures (ltb-true _ _ (byte_that_held _ _ _ c.in_ok-predicate.ensures.says))

pub arguments-requires : goal.arguments-requires
arguments-requires c = rw c.from.ensures (arity_within _ _ c.requires (ltb-true _ _ (byte_that_held _ _ _ c.in_ok-predicate.ensures.says)))

pub returns : goal.returns
returns c = predicate_read _ _ _ _ c.in_ok-predicate.ensures.says (rw c.from.ensures at c.arguments.ensures)
