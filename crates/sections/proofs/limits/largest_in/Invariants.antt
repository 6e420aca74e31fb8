-- The largest so far and those of the rows from i on give the largest of all.
use Rattle.sections.proofs.Columns.{LargestFrom}
use Rattle.sections.proofs.limits.largest_in.Given as goal

abbrev pub invariant-loop-i : goal.invariant-loop-i
invariant-loop-i l = LargestFrom l.table l.count l.column l.most l.i
