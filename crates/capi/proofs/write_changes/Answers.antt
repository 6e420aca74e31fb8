-- Part after part takes its place.
use Rattle.std.proofs.Common.{refl, rules}
use Rattle.capi.proofs.Previewing.{changes_put}
use Rattle.capi.proofs.write_changes.Goals as goal

pub returns : goal.returns
returns c =
    changes_put c.args.bytes.now c.args.changes c.requires.0 (search rules) (search rules) c.copy_from_slice.ensures.after refl c.write_rows.ensures
    c.write_rows-2.ensures
