use Rattle.state.specs.Rows.{row_number}
use Rattle.state.proofs.number.Goals as goal

pub returns : goal.returns
unfolding row_number
returns c = c.from_be_bytes.ensures
