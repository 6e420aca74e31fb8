-- One atom after the other.
use Rattle.open_actions.proofs.Choosing.{Filled}
use Rattle.open_actions.proofs.query.Query.supports_for.Given as goal

abbrev pub invariant-loop-i : goal.invariant-loop-i
invariant-loop-i l = Filled l.self l.list l.parameter l.bound l.objects l.items l.i
