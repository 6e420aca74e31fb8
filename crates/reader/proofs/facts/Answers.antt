-- `facts` reads as the definition does.
use Rattle.model.specs.Card.{facts}
use Rattle.reader_bytes.proofs.Answers.{goes, halts}
use Rattle.reader_bytes.proofs.FactCount.{count_held}
use Rattle.reader_bytes.proofs.Reading.{hands_on, reads_as}
use Rattle.reader.proofs.facts.Goals as goal

pub returns-in_err-count : goal.returns-in_err-count
unfolding facts
returns-in_err-count c = hands_on _ _ c.from_residual.ensures.1 (halts _ c.in_err-count.ensures.says)

pub facts-requires : goal.facts-requires
facts-requires c = (count_held _ c.in_ok-count.ensures.says, c.in_ok-count.ensures.within, c.requires)

pub returns : goal.returns
unfolding facts
returns c = reads_as (goes _ c.in_ok-count.ensures.says) c.facts.ensures
