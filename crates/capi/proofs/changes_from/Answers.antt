-- The schema, the objects, and the rows at their places.
use Rattle.std.proofs.Common.{◌≡◌, get_or, rules}
use Rattle.capi.specs.Previewing.{changes_held}
use Rattle.capi.proofs.changes_from.Goals as goal

pub returns : goal.returns
unfolding changes_held
returns c =
    let schema : c.from-schema.result ≡ get_or c.args.bytes.now 0 0 = search rules in
    let object_count : c.from-object_count.result ≡ get_or c.args.bytes.now 1 0 = search rules in
    λ i. record {
      schema = schema i;
      object_count = object_count i;
      objects = c.copy_from_slice.ensures.after i;
      gone = c.rows_at-gone.ensures i;
      come = c.rows_at-come.ensures i;
    }
