-- The rows from here on decide what is left to decide.
use Rattle.std.proofs.Common.{◌≡◌, ◌-◌, ◌*◌, drop}
use Rattle.state.specs.Rows.{rows_in}
use Rattle.state.proofs.rows_right.Given as goal

abbrev pub invariant-loop-row : goal.invariant-loop-row
invariant-loop-row l =
    rows_in l.arities l.objects l.least (l.count - l.row-index) (drop (4 * l.row-index) l.state) ≡ rows_in l.arities l.objects 0 l.count l.state
