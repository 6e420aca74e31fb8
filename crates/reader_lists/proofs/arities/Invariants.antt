-- `i` arities are read, up to the cursor.
use Rattle.std.proofs.Common.{drop}
use Rattle.model.specs.Card.{byte_that, between}
use Rattle.reader_lists.proofs.Plain.{Plain}
use Rattle.reader_lists.proofs.arities.Given as goal

abbrev pub invariant-loop-i : goal.invariant-loop-i
invariant-loop-i l =
    Plain (λ b. b) (λ b. b) 0 20 (byte_that (between 1 3) 2) l.count (drop l.initial.c.at l.card) l.card l.list.arities l.i l.c.at
