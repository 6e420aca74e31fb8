use Rattle.text.proofs.Writing.{finish, next_fits, next}
use Rattle.text.proofs.NumberRows.{value_at, no_value}
use Rattle.text.proofs.rows.write_numbers.Goals as goal

pub write_item-at-requires : goal.write_item-at-requires
write_item-at-requires g c =
    next_fits c.loop-n.invariant (value_at g.T.Number.value _ c.loop-n.n-index c.n-item.result c.loop-n-test.true c.n-item.is c.number.ensures)

pub loop-n-preserved : goal.loop-n-preserved
loop-n-preserved g c =
    next c.loop-n.invariant (value_at g.T.Number.value _ c.loop-n.n-index c.n-item.result c.loop-n-test.true c.n-item.is c.number.ensures)
    c.write_item-at.ensures

pub returns : goal.returns
returns g c = finish c.loop-n.invariant (no_value g.T.Number.value _ _ c.loop-n-test.false)
