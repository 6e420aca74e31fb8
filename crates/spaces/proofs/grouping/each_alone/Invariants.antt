-- The numbers so far are written, with 0 behind them.
use Rattle.std.proofs.Common.{◌≡◌}
use Rattle.laws.specs.Lists.{padded, up_to}
use Rattle.spaces.proofs.grouping.each_alone.Given as goal

abbrev pub invariant-loop-c : goal.invariant-loop-c
invariant-loop-c l = l.groups ≡ padded 60 0 (up_to l.c)
