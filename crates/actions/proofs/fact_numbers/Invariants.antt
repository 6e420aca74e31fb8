-- The numbers of the facts passed stand at the front, before what stood behind them.
use Rattle.std.proofs.Common.{◌≡◌, ◌++◌, map, take, drop}
use Rattle.actions.proofs.GroundRows.{fact_number_of}
use Rattle.actions.proofs.fact_numbers.Given as goal

abbrev pub invariant-loop-i : goal.invariant-loop-i
invariant-loop-i l = l.numbers ≡ map (fact_number_of l.arities) (take l.i l.fn.facts.facts) ++ drop l.i l.fn.numbers
