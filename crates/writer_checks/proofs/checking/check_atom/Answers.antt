-- A case for each return.
use Rattle.model.specs.Answer.{need, ◌>>◌}
use Rattle.model.specs.Card as model
use Rattle.writer_checks.specs.Checking.{checked_says, previous, check_ordered}
use Rattle.writer_checks.proofs.checking.check_atom.Goals as goal

pub returns-then-not-is_known : goal.returns-then-not-is_known
unfolding checked_says check_ordered need ◌>>◌
returns-then-not-is_known c = rw (← c.if-not-is_known.ensures)

pub returns-in-Some : goal.returns-in-Some
unfolding checked_says check_ordered need ◌>>◌ previous model.above
returns-in-Some c = rw (← c.if-not-is_known.ensures, c.in-Some.is, ← c.if-not-is_below.ensures)

pub returns-in_default : goal.returns-in_default
unfolding checked_says check_ordered need ◌>>◌ previous model.above
returns-in_default c = rw (← c.if-not-is_known.ensures, c.in-Some.is, ← c.if-not-is_below.ensures)

pub returns-in_default-2 : goal.returns-in_default-2
unfolding checked_says check_ordered need ◌>>◌ previous model.above
returns-in_default-2 c = rw (← c.if-not-is_known.ensures, c.in_default.is)
