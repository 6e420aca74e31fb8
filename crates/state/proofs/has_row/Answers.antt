-- The first row that is not below n has the number, or no row has it.
use Rattle.std.proofs.Common.{ap, ◌∙◌, arith}
use mathlib.Core.List.{[]}
use Rattle.state.specs.Rows.{row_number}
use Rattle.state.proofs.Chunks.{row_here, row_inside, rows_over}
use Rattle.state.proofs.Finding.{number_there, number_missing}
use Rattle.state.proofs.has_row.Goals as goal

pub returns-in-Some : goal.returns-in-Some
returns-in-Some c =
    let rows = c.rows.ensures in
    let within = c.in-Some.ensures.lookup.3.0 in
    number_there c.requires c.args.n (row_inside _ _ _ rows within)
    (c.number.ensures ∙ ap row_number (c.in-Some.ensures.lookup.3.1 [] ∙ row_here _ _ _ rows within)) c.rows_below-i.ensures

pub returns-in-None : goal.returns-in-None
returns-in-None c =
    let past = rows_over _ _ _ c.rows.ensures c.in-None.ensures.lookup.3 in
    number_missing c.requires c.args.n (omega (arith, c.rows_below-i.ensures))
