-- A law for each return.
use Rattle.std.proofs.lemmas.Result.{err_from_is_err_and}
use Rattle.std.proofs.Common.{arith}
use Rattle.writer.proofs.Encoding.{checked_fits, encode_refused, encode_short, encode_written}
use Rattle.writer.proofs.encode.Goals as goal

pub returns-in_err-check_task : goal.returns-in_err-check_task
returns-in_err-check_task c =
    let p = err_from_is_err_and c.from_residual.result c.from_residual.ensures.1 in
    rw (p.1, p.2) (encode_refused _ _ _ c.in_err-check_task.ensures)

pub returns-then-out-lt-OUTPUT_BYTES : goal.returns-then-out-lt-OUTPUT_BYTES
returns-then-out-lt-OUTPUT_BYTES c = encode_short _ _ _ c.in_ok-check_task.ensures c.if-out-lt-OUTPUT_BYTES.true

pub write_task-requires : goal.write_task-requires
write_task-requires c = (checked_fits _ _ c.in_ok-check_task.ensures, omega arith)

pub returns : goal.returns
returns c = encode_written _ _ _ c.in_ok-check_task.ensures c.if-out-lt-OUTPUT_BYTES.false _ _ c.write_task.ensures
