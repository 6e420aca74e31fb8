use Rattle.std.proofs.Common.{refl}
use mathlib.Core.List.{flat_map}
use Rattle.state.proofs.Writing.{rows_written}
use Rattle.state.proofs.write_rows.Goals as goal

pub loop-i-init : goal.loop-i-init
unfolding flat_map
loop-i-init c = refl

pub loop-i-preserved : goal.loop-i-preserved
loop-i-preserved c = rows_written _ _ c.loop-i.invariant c.loop-i-test.true c.write_row.ensures
