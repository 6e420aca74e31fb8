-- The candidates in turn: those that leave room are kept.
use Rattle.open_actions.specs.Supports.{LeavesRoom}
use Rattle.open_actions.proofs.room.with_room.Given as goal

abbrev pub invariant-loop-o : goal.invariant-loop-o
invariant-loop-o l = LeavesRoom l.left.mask l.left.culprits l.supports l.room l.o l.mask l.culprits
