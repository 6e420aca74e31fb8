-- The number of rows below n lies between `low` and `high`, which close in on it.
use Rattle.std.proofs.Common.{◌≤◌, ◌-◌}
use Rattle.sets.specs.Numbers.{place}
use Rattle.state.specs.Rows.{numbers_in}
use Rattle.state.proofs.rows_below.Given as goal

abbrev pub invariant-loop-low : goal.invariant-loop-low
invariant-loop-low l =
    (l.low ≤ place l.n (numbers_in l.count l.state)) × (place l.n (numbers_in l.count l.state) ≤ l.high) × (l.high ≤ l.count)

abbrev pub decreases-loop-low : goal.decreases-loop-low
decreases-loop-low l = l.high - l.low
