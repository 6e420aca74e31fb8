-- The letter with the index, and the line's end stored behind them.
use Rattle.text.proofs.Writing.{first_fits, last_inside, with_last}
use Rattle.text.proofs.LineTexts.{membership_end}
use Rattle.text.proofs.lines.write_membership.Goals as goal

pub write_one-end-requires : goal.write_one-end-requires
write_one-end-requires c = first_fits (membership_end _) c.requires

pub bounds-out-end : goal.bounds-out-end
bounds-out-end c = last_inside (membership_end _) c.requires c.write_one-end.ensures

pub returns : goal.returns
returns c = with_last (membership_end _) c.requires c.write_one-end.ensures
