-- The numbers are small, and the bytes are as the answer leaves them.
use Rattle.std.proofs.Common.{sym, ◌∙◌}
use Rattle.capi.proofs.Codes.{same_code}
use Rattle.capi.proofs.Previewing.{changes_small, asks_small, number_asked, bytes_asked}
use Rattle.capi.proofs.stakestalk_preview.Goals as goal

pub previewed_code-requires : goal.previewed_code-requires
previewed_code-requires c =
    let asks = c.preview.ensures in
    (asks_small _ _ _ _ asks, changes_small _ _ _ _ asks)

pub returns-clause-value : goal.returns-clause-value
returns-clause-value c =
    same_code c.previewed_code.result c.previewed_code.type_inv c.previewed_code.ensures.value (sym (number_asked c.preview.ensures))

pub returns-clause-changes_after : goal.returns-clause-changes_after
returns-clause-changes_after c = c.previewed_code.ensures.changes_after ∙ bytes_asked c.preview.ensures _
