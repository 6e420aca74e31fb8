-- The numbers of the rows so far stand at the front.
use Rattle.std.proofs.Common.{◌≡◌, ◌++◌, drop}
use Rattle.state.specs.Rows.{numbers_in}
use Rattle.state.proofs.load.Given as goal

abbrev pub invariant-loop-i : goal.invariant-loop-i
invariant-loop-i l = l.numbers ≡ numbers_in l.i l.state ++ drop l.i l.initial.numbers
