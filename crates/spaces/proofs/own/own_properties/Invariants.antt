-- The properties so far of the group are written and counted.
use Rattle.std.proofs.Common.{◌≡◌, ◌≤◌, length}
use Rattle.laws.specs.Lists.{padded}
use Rattle.spaces.specs.Own.{own_of}
use Rattle.spaces.proofs.own.own_properties.Given as goal

abbrev pub invariant-loop-c : goal.invariant-loop-c
invariant-loop-c l =
    (l.count ≤ l.c)
    × (l.count ≡ length (own_of l.groups l.c l.lowest))
    × (l.properties ≡ padded 60 0 (own_of l.groups l.c l.lowest))
