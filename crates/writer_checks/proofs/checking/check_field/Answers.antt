-- A case for each list that the atom may stand on.
use Rattle.model.specs.Answer.{need}
use Rattle.card.specs.Fields.{field_test}
use Rattle.card.specs.Represents.{refusal_number}
use Rattle.writer_checks.specs.Checking.{checked_says}
use Rattle.writer_checks.proofs.checking.check_field.Goals as goal

pub returns-in-Deletes : goal.returns-in-Deletes
unfolding checked_says need field_test refusal_number
returns-in-Deletes c = rw (c.in-Deletes.is, ← c.if-not-has_atom.ensures)

pub returns-in-Adds : goal.returns-in-Adds
unfolding checked_says need field_test refusal_number
returns-in-Adds c = rw (c.in-Adds.is, ← c.if-has_atom.ensures)

pub returns-in_default : goal.returns-in_default
unfolding checked_says need field_test refusal_number
returns-in_default c = rw (c.in-Deletes.is, ← c.if-not-has_atom.ensures)

pub returns-in_default-2 : goal.returns-in_default-2
unfolding checked_says need field_test refusal_number
returns-in_default-2 c = rw (c.in-Adds.is, ← c.if-has_atom.ensures)

pub returns-in_default-3 : goal.returns-in_default-3
unfolding checked_says need field_test refusal_number
returns-in_default-3 c = rw c.in_default.is
