-- `schema` reads as the definition does.
use Rattle.reader_bytes.proofs.Reading.{hands_on, reads_as}
use Rattle.reader.proofs.Headers.{bit_zero, map_refused, roles_refused, head_read}
use Rattle.reader.proofs.schema.Goals as goal

pub returns-in_err-map : goal.returns-in_err-map
returns-in_err-map c = hands_on _ _ c.from_residual.ensures.1 (map_refused _ _ c.in_err-map.ensures.says)

pub returns-in_err-roles : goal.returns-in_err-roles
returns-in_err-roles c =
    hands_on _ _ c.from_residual-in_err-roles.ensures.1 (roles_refused _ _ _ c.in_ok-map.ensures.says (bit_zero _) c.in_err-roles.ensures.says)

pub returns : goal.returns
returns c =
    reads_as (head_read _ _ _ c.in_ok-map.ensures.says (bit_zero _) _ c.in_ok-roles.ensures.says) (rw c.from.ensures at c.lists.ensures)
