-- All `M` lines, and all `D`, `X` and `E` lines into the rest of the buffer.
use Rattle.space_lines.proofs.Parts.{limits_first}
use Rattle.text.proofs.Writing.{first_fits, second_fits, both}
use Rattle.space_lines.proofs.write_invariants.Goals as goal

pub write_limits-at-requires : goal.write_limits-at-requires
write_limits-at-requires c =
    let pre = c.requires.listable in
    (pre.rows, pre.apart, pre.known, first_fits (limits_first _ _ _) c.requires.room)

pub write_comparisons-n-requires : goal.write_comparisons-n-requires
write_comparisons-n-requires c =
    let pre = c.requires.listable in
    (pre.rows, pre.few, second_fits (limits_first _ _ _) c.requires.room c.write_limits-at.ensures)

pub returns : goal.returns
returns c = both (limits_first _ _ _) c.requires.room c.write_limits-at.ensures c.write_comparisons-n.ensures
