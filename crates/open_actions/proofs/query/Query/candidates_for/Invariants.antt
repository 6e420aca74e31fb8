-- Each atom leaves some of the candidates, or all.
use Rattle.open_actions.specs.Supports.{LeavesCandidates}
use Rattle.open_actions.proofs.query.Query.candidates_for.Given as goal

abbrev pub invariant-loop-a : goal.invariant-loop-a
invariant-loop-a l = LeavesCandidates l.self l.fn.list l.a-index l.parameter l.bound l.objects l.mask l.culprits
