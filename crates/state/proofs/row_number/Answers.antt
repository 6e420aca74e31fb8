use Rattle.std.proofs.Common.{refl}
use Rattle.state.specs.Rows.{row_number}
use Rattle.state.proofs.row_number.Goals as goal

pub returns : goal.returns
unfolding row_number
returns c = rw (c.from.ensures, c.from-2.ensures, c.from-3.ensures, c.from-4.ensures) refl
