-- The binding has the noted objects at the culprits below the parameter.
use Rattle.open_actions.proofs.Noting.{Comparing}
use Rattle.open_actions.proofs.notes.recall.Given as goal

abbrev pub invariant-loop-p : goal.invariant-loop-p
invariant-loop-p l = Comparing l.notes l.place l.objects l.culprits l.p
