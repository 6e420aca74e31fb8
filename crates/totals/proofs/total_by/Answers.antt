-- A row with another number decides; otherwise the rows after it do.
use Rattle.std.proofs.Common.{ℕ, ◌≤◌, ◌<◌, ◌*◌, List, get_or, arith}
use Rattle.totals.proofs.EnteringTotals.{none_given, first_number, another, same_number, one_number_lem, total_small}
use Rattle.totals.proofs.total_by.Goals as goal

-- the total, and one more, in 32 bits
small : (table : List ℕ) (column members : ℕ) → get_or table column 0 < 65536 → members ≤ 64 → get_or table column 0 * members ≤ 4194240
small table column members h k = total_small (get_or table column 0) members (omega arith) k

pub returns-then-count-eq0 : goal.returns-then-count-eq0
returns-then-count-eq0 c = none_given _ _ _ _ c.if-count-eq0.true

pub loop-i-init : goal.loop-i-init
loop-i-init c = first_number _ _ _ (omega (arith, c.if-count-eq0.false))

pub returns-then-table-i : goal.returns-then-table-i
returns-then-table-i c =
    another _ _ _ c.args.members _ c.loop-i.i c.loop-i-test.true c.if-table-i.true c.loop-i.invariant

pub loop-i-preserved : goal.loop-i-preserved
loop-i-preserved c = same_number _ _ _ _ c.loop-i.i c.loop-i-test.true c.if-table-i.false c.loop-i.invariant

pub overflow_mul-result : goal.overflow_mul-result
overflow_mul-result c =
    rw c.from.ensures
    (omega (arith, small c.args.table.now c.args.column c.args.members (omega (arith, c.type_inv.table c.args.column)) c.requires.2))

pub overflow_add-result : goal.overflow_add-result
overflow_add-result c =
    rw c.from.ensures
    (omega (arith, small c.args.table.now c.args.column c.args.members (omega (arith, c.type_inv.table c.args.column)) c.requires.2))

pub returns : goal.returns
returns c =
    rw c.from.ensures (one_number_lem _ _ _ c.args.members _ c.loop-i.i c.loop-i-test.false c.loop-i.invariant)
