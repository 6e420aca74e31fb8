-- The schemas in turn: those before the next one allow no binding.
use Rattle.open_actions.specs.Schemas.{PassedOver}
use Rattle.open_actions.proofs.query.Queries.open_among.Given as goal

abbrev pub invariant-loop-number : goal.invariant-loop-number
invariant-loop-number l = PassedOver l.self.arities.now l.self.known l.self.schemas.now l.self.state.now l.self.count l.first l.number
