-- The query has the schema of the number, and the rest of what the queries have.
use Rattle.std.proofs.Common.{refl}
use Rattle.open_actions.specs.Bindings.{query_in}
use Rattle.open_actions.proofs.query.Queries.query.Goals as goal

pub returns : goal.returns
unfolding query_in
returns c = refl
