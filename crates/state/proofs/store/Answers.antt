use Rattle.state.proofs.Writing.{rows_stored}
use Rattle.state.proofs.store.Goals as goal

pub returns : goal.returns
returns c = rows_stored _ _ _ _ c.write_rows.ensures c.requires.0 c.clear.ensures
