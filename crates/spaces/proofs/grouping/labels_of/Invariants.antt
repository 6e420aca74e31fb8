-- The labels so far are written and counted.
use Rattle.std.proofs.Common.{◌≡◌, length}
use Rattle.laws.specs.Lists.{padded}
use Rattle.spaces.specs.Steps.{labelled}
use Rattle.spaces.proofs.grouping.labels_of.Given as goal

abbrev pub invariant-loop-c : goal.invariant-loop-c
invariant-loop-c l = (l.count ≡ length (labelled l.c l.groups)) × (l.lowest ≡ padded 60 0 (labelled l.c l.groups))
