use Rattle.std.proofs.Common.{ℕ, ◌++◌, drop, refl, ap, ◌∙◌, arith}
use Rattle.state.specs.Rows.{row_number, numbers_in}
use Rattle.state.proofs.Chunks.{row_here, rows_counted}
use Rattle.state.proofs.Writing.{load_step}
use Rattle.state.proofs.load.Goals as goal

pub loop-i-init : goal.loop-i-init
unfolding numbers_in
loop-i-init c = refl

pub bounds-numbers-i : goal.bounds-numbers-i
bounds-numbers-i c = omega (arith, rows_counted _ _ _ c.rows-row-items.ensures)

pub loop-i-preserved : goal.loop-i-preserved
loop-i-preserved c =
    load_step c.args.state.now c.args.numbers.now c.loop-i.numbers c.loop-i.i c.number.result c.loop-i.invariant
    (omega (arith, rows_counted _ _ _ c.rows-row-items.ensures)) (c.number.ensures ∙ ap row_number (row_here _ _ _ c.rows-row-items.ensures c.loop-i-test.true))

pub returns : goal.returns
returns c =
    let all = rows_counted _ _ _ c.rows-row-items.ensures in
    c.loop-i.invariant ∙ ap (λ (k : ℕ). numbers_in k c.args.state.now ++ drop k c.args.numbers.now) (omega arith)
