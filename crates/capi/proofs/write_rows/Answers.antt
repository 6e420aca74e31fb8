-- The number, then the rows.
use Rattle.std.proofs.Common.{rules}
use Rattle.capi.specs.Previewing.{rows_shown}
use Rattle.capi.proofs.Previewing.{rows_put}
use Rattle.capi.proofs.write_rows.Goals as goal

pub returns : goal.returns
unfolding rows_shown
returns c = rows_put c.args.bytes.now c.args.rows.rows c.args.at _ c.requires.0 (search rules) c.copy_from_slice.ensures.after
