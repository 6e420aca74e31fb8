-- The numbers so far are put in.
use Rattle.std.proofs.Common.{take}
use Rattle.sets.proofs.Changing.{Changing, put_in}
use Rattle.sets.proofs.insert_all.Given as goal

abbrev pub invariant-loop-n : goal.invariant-loop-n
invariant-loop-n l = Changing put_in l.new (take l.count l.initial.numbers) l.initial.numbers l.n-index l.numbers l.held
