-- `predicates` reads as the definition does.
use Rattle.model.specs.Card.{predicates}
use Rattle.card.specs.Represents.{refusal_number}
use Rattle.reader_bytes.proofs.Answers.{goes, halts, between_held}
use Rattle.reader_bytes.proofs.Reading.{hands_on, reads_as}
use Rattle.reader.proofs.predicates.Goals as goal

pub returns-in_err-count : goal.returns-in_err-count
unfolding predicates refusal_number
returns-in_err-count c = hands_on _ _ c.from_residual.ensures.1 (halts _ c.in_err-count.ensures.says)

pub arities-requires : goal.arities-requires
arities-requires c = (rw c.from.ensures ((between_held _ _ _ _ c.in_ok-count.ensures.says).1), c.in_ok-count.ensures.within)

pub returns : goal.returns
unfolding predicates refusal_number
returns c = reads_as (goes _ c.in_ok-count.ensures.says) (rw c.from.ensures at c.arities.ensures)
