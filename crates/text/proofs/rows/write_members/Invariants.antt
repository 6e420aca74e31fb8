-- The members of the mask that is left remain to be written. The mask gets smaller.
use Rattle.std.proofs.Common.{◌^◌, ◌<◌}
use Rattle.masks.specs.Sets.{members_of}
use Rattle.text.specs.Numbers.{numbers}
use Rattle.text.proofs.Writing.{Remains}
use Rattle.text.proofs.rows.write_members.Given as goal

abbrev pub invariant-loop-rest : goal.invariant-loop-rest
invariant-loop-rest l = Remains (numbers (members_of l.mask)) (numbers (members_of l.rest)) l.initial.out l.out l.at × (l.rest < 2 ^ 64)

abbrev pub decreases-loop-rest : goal.decreases-loop-rest
decreases-loop-rest l = l.rest
