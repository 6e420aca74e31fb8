-- 15: the buffer's length, the count, and one pass over the rows.
use Rattle.std.proofs.Common.{◌∙◌}
use Rattle.state.proofs.RightRows.{well_formed_rows, small_buffer, large_count}
use Rattle.state.proofs.well_formed.Goals as goal

pub returns-then-state-lt-STATE_BYTES : goal.returns-then-state-lt-STATE_BYTES
returns-then-state-lt-STATE_BYTES c = small_buffer _ _ _ _ c.if-state-lt-STATE_BYTES.true

pub returns-then-count-gt-MOST_FACTS : goal.returns-then-count-gt-MOST_FACTS
returns-then-count-gt-MOST_FACTS c = large_count _ _ _ _ c.if-state-lt-STATE_BYTES.false c.if-count-gt-MOST_FACTS.true

pub returns : goal.returns
returns c =
    c.rows_right.ensures
    ∙ well_formed_rows c.args.arities.now c.args.objects c.args.state.now c.args.count c.requires
    (λ i. (c.type_inv.state i).fits) c.if-state-lt-STATE_BYTES.false c.if-count-gt-MOST_FACTS.false
