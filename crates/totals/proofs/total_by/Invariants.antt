-- The rows from i on decide whether the column is of one number.
use Rattle.totals.proofs.EnteringTotals.{Decides}
use Rattle.totals.proofs.total_by.Given as goal

abbrev pub invariant-loop-i : goal.invariant-loop-i
invariant-loop-i l = Decides l.table l.count l.column l.n l.i
