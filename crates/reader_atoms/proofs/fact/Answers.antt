-- `fact` reads as the definition does.
use Rattle.std.proofs.Common.{sym, ◌∙◌}
use Rattle.card.specs.Represents.{refusal_number}
use Rattle.reader_bytes.proofs.Reading.{accepts, refuses, passed_on}
use Rattle.reader_atoms.proofs.Checks.{above_bytes_lem, fact_ends, fact_passes, fact_unordered}
use Rattle.reader_atoms.proofs.fact.Goals as goal

pub returns-in_default : goal.returns-in_default
unfolding refusal_number
returns-in_default c = passed_on c.in_default.is (refuses (fact_ends _ _ _ _ c.in_default.ensures.says))

pub returns-then-is_above : goal.returns-then-is_above
unfolding refusal_number
returns-then-is_above c =
    let r = c.in-Ok.ensures in
    let above = above_bytes_lem _ _ r.keeps _ c.requires.1 ∙ sym c.is_above.ensures ∙ c.if-is_above.true in
    passed_on c.in-Ok.is (accepts (fact_passes _ _ _ _ r.says above) r.within r.keeps)

pub returns-else-is_above : goal.returns-else-is_above
unfolding refusal_number
returns-else-is_above c =
    let r = c.in-Ok.ensures in
    refuses (fact_unordered _ _ _ _ r.says (above_bytes_lem _ _ r.keeps _ c.requires.1 ∙ sym c.is_above.ensures ∙ c.if-is_above.false))
