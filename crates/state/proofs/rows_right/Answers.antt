-- One pass over the rows: those from here on decide what is left to decide.
use Rattle.std.proofs.Common.{sym, ap, ◌∙◌}
use Rattle.model.specs.Strips.{row_right}
use Rattle.state.specs.Rows.{row_number}
use Rattle.state.proofs.Chunks.{row_here, row_inside, rows_over}
use Rattle.state.proofs.RightRows.{rows_end, rows_wrong, rows_low, rows_again}
use Rattle.state.proofs.rows_right.Goals as goal

pub returns-then-not-row_right : goal.returns-then-not-row_right
returns-then-not-row_right c =
    let rows = c.rows-row-items.ensures in
    let here = row_here _ _ _ rows c.loop-row-test.true in
    rows_wrong _ _ _ _ c.loop-row.invariant (row_inside _ _ _ rows c.loop-row-test.true)
    (sym (c.row_right.ensures ∙ ap (row_right c.args.arities.now c.args.objects) here) ∙ c.if-not-row_right.true)

pub returns-then-n-least : goal.returns-then-n-least
returns-then-n-least c =
    let rows = c.rows-row-items.ensures in
    let here = row_here _ _ _ rows c.loop-row-test.true in
    rows_low _ _ _ _ c.loop-row.invariant (row_inside _ _ _ rows c.loop-row-test.true)
    (sym (c.row_right.ensures ∙ ap (row_right c.args.arities.now c.args.objects) here) ∙ c.if-not-row_right.false)
    (c.from-n.ensures ∙ c.number.ensures ∙ ap row_number here) c.if-n-least.true

pub loop-row-preserved : goal.loop-row-preserved
loop-row-preserved c =
    let rows = c.rows-row-items.ensures in
    let here = row_here _ _ _ rows c.loop-row-test.true in
    rows_again _ _ _ _ c.loop-row.invariant (row_inside _ _ _ rows c.loop-row-test.true)
    (sym (c.row_right.ensures ∙ ap (row_right c.args.arities.now c.args.objects) here) ∙ c.if-not-row_right.false)
    (c.from-n.ensures ∙ c.number.ensures ∙ ap row_number here) c.if-n-least.false

pub returns : goal.returns
returns c = rows_end _ _ _ _ (rows_over _ _ _ c.rows-row-items.ensures c.loop-row-test.false) ∙ c.loop-row.invariant
