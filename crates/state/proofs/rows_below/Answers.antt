-- The row in the middle is below n, and so are those before it, or it isn't, nor are those after it.
use Rattle.std.proofs.Common.{◌≡◌, ◌<◌, ◌≤◌, ◌+◌, ◌-◌, ◌/◌, ℕ, List, [], get_or, ap, ◌∙◌, arith}
use Rattle.std.specs.Simd.{first_chunks}
use Rattle.state.specs.Rows.{row_number, row_at}
use Rattle.state.proofs.Chunks.{rows_counted, row_here}
use Rattle.state.proofs.Finding.{below_within, below_past, below_up_to}
use Rattle.state.proofs.rows_below.Goals as goal

-- between the two ends, and so among the rows
middle_inside : {low high count : ℕ} → low < high → high ≤ count → low + (high - low) / 2 < count
middle_inside less within = omega arith

-- what is read of a row that the library cut is its number
number_read : (rows : List (List ℕ)) (count : ℕ) (buffer : List ℕ) {i r : ℕ} → rows ≡ first_chunks 4 count buffer → i < count
    → r ≡ row_number (get_or rows i []) → r ≡ row_number (row_at i buffer)
number_read rows count buffer are inside read =
    read ∙ ap row_number (row_here rows count buffer are (omega (arith, inside, rows_counted rows count buffer are)))

pub loop-low-init : goal.loop-low-init
loop-low-init c = let within = below_within c.requires c.args.n in (omega arith, within, omega arith)

pub bounds-rows-middle : goal.bounds-rows-middle
bounds-rows-middle c = omega (arith, middle_inside c.loop-low-test.true c.loop-low.invariant.2, rows_counted _ _ _ c.rows-rows.ensures)

pub loop-low-preserved-then-number-n : goal.loop-low-preserved-then-number-n
loop-low-preserved-then-number-n c =
    let known = c.loop-low.invariant in
    let inside = middle_inside c.loop-low-test.true known.2 in
    let past = below_past c.requires c.args.n inside (number_read _ _ _ c.rows-rows.ensures inside c.number.ensures) c.if-number-n.true in
    (omega (arith, past), known.1, known.2)

pub loop-low-preserved : goal.loop-low-preserved
loop-low-preserved c =
    let known = c.loop-low.invariant in
    let inside = middle_inside c.loop-low-test.true known.2 in
    let here = below_up_to c.requires c.args.n inside (number_read _ _ _ c.rows-rows.ensures inside c.number.ensures) c.if-number-n.false in
    (known.0, here, omega (arith, inside))

pub returns : goal.returns
returns c = omega (arith, c.loop-low.invariant.0, c.loop-low.invariant.1, c.loop-low-test.false)
