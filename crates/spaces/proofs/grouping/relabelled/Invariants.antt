-- The labels before the index are replaced.
use Rattle.std.proofs.Common.{◌≡◌}
use Rattle.laws.proofs.Walks.{changed}
use Rattle.spaces.proofs.Uniting.{replaced}
use Rattle.spaces.proofs.grouping.relabelled.Given as goal

abbrev pub invariant-loop-label : goal.invariant-loop-label
invariant-loop-label l = l.label-items ≡ changed (replaced l.from l.to) l.label-index l.fn.groups
