-- The objects of the parameters so far stand at the place.
use Rattle.open_actions.proofs.Noting.{Noting}
use Rattle.open_actions.proofs.notes.note.Given as goal

abbrev pub invariant-loop-p : goal.invariant-loop-p
invariant-loop-p l = Noting l.initial.notes l.notes l.place l.objects l.p
