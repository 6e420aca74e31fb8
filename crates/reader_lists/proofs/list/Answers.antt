-- `list` reads as the definition does.
use Rattle.card.specs.Represents.{refusal_number}
use Rattle.reader_bytes.proofs.Answers.{between_held}
use Rattle.reader_bytes.proofs.Reading.{reads_as, hands_on}
use Rattle.reader_lists.proofs.AtomLists.{list_absent, list_uncounted, list_counted, read_left, read_on_card, no_list}
use Rattle.std.proofs.Common.{◌∙◌}
use Rattle.reader_lists.proofs.list.Goals as goal

pub returns-then-not-present : goal.returns-then-not-present
returns-then-not-present c = no_list _ c.no_atoms.ensures (list_absent _ _ _ c.if-not-present.true) c.requires.0

pub returns-in_err-count : goal.returns-in_err-count
unfolding refusal_number
returns-in_err-count c = hands_on _ _ c.from_residual.ensures.1 (list_uncounted _ _ _ c.if-not-present.false c.in_err-count.ensures.says)

pub atoms-requires : goal.atoms-requires
atoms-requires c = (rw c.from.ensures ((between_held _ _ _ _ c.in_ok-count.ensures.says).1), c.requires.1, c.requires.2)

pub returns-in_err-items : goal.returns-in_err-items
unfolding refusal_number
returns-in_err-items c =
    let counted = list_counted _ _ _ c.if-not-present.false c.in_ok-count.ensures.says c.from.ensures in
    hands_on _ _ c.from_residual-in_err-items.ensures.1 (counted ∙ (read_left c.args.card.now c.in_ok-count.after.at _ _ c.in_err-items.ensures).says)

pub returns : goal.returns
unfolding refusal_number
returns c =
    let counted = list_counted _ _ _ c.if-not-present.false c.in_ok-count.ensures.says c.from.ensures in
    reads_as counted (read_on_card _ _ c.in_ok-count.ensures.within (read_left c.args.card.now c.in_ok-count.after.at _ _ c.in_ok-items.ensures))
