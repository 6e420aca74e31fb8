-- The masks of the labels so far are written.
use Rattle.std.proofs.Common.{◌≡◌, get_or, take}
use mathlib.Core.List.{map}
use Rattle.laws.specs.Lists.{padded}
use Rattle.spaces.proofs.members.by_number.Given as goal

abbrev pub invariant-loop-k : goal.invariant-loop-k
invariant-loop-k l = l.numbered ≡ padded 60 0 (map (λ n. get_or l.members n 0) (take l.k l.lowest))
