-- The rounds left, done with the members so far, give the whole.
use Rattle.std.proofs.Common.{◌≡◌, ◌-◌}
use Rattle.spaces.specs.Steps.{rounds_in}
use Rattle.spaces.proofs.members.close.Given as goal

abbrev pub invariant-loop : goal.invariant-loop
invariant-loop l =
    rounds_in l.groups l.objects l.size l.count l.preconditions l.deletes l.adds (l.rounds - l.counter) l.closed
    ≡ rounds_in l.groups l.objects l.size l.count l.preconditions l.deletes l.adds l.rounds l.fn.members
