-- The numbers so far are taken out.
use Rattle.std.proofs.Common.{take}
use Rattle.sets.proofs.Changing.{Changing, take_out}
use Rattle.sets.proofs.remove_all.Given as goal

abbrev pub invariant-loop-n : goal.invariant-loop-n
invariant-loop-n l = Changing take_out l.out (take l.count l.initial.numbers) l.initial.numbers l.n-index l.numbers l.left
