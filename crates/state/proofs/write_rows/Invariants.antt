-- The rows of the numbers so far stand at the front of the buffer.
use Rattle.std.proofs.Common.{◌≡◌, ◌++◌, ◌*◌, take, drop}
use mathlib.Core.List.{flat_map}
use Rattle.state.specs.Rows.{row_bytes}
use Rattle.state.proofs.write_rows.Given as goal

abbrev pub invariant-loop-i : goal.invariant-loop-i
invariant-loop-i l = l.state ≡ flat_map row_bytes (take l.i l.numbers) ++ drop (4 * l.i) l.initial.state
