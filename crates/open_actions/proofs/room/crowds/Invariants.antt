-- One atom after the other takes room, until there is none.
use Rattle.open_actions.proofs.Choosing.{Crowded}
use Rattle.open_actions.proofs.room.crowds.Given as goal

abbrev pub invariant-loop-add : goal.invariant-loop-add
invariant-loop-add l = Crowded l.supports l.room l.o l.left l.culprits l.add-index
