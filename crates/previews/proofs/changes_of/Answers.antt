-- The deletes in order, then the adds that are not in the state, in order.
use Rattle.strips.proofs.Applying.{deletes_bound, adds_bound, rows_ascend}
use Rattle.previews.proofs.InOrder.{deletes_held, gone_rows, adds_held, new_held, come_rows, objects_few}
use Rattle.previews.proofs.Foreseeing.{changes_made}
use Rattle.previews.proofs.changes_of.Goals as goal

pub taken_out-deletes-requires : goal.taken_out-deletes-requires
taken_out-deletes-requires c = deletes_bound c.requires.ready

pub in_order-gone-requires : goal.in_order-gone-requires
in_order-gone-requires c = deletes_held c.requires _ c.taken_out-deletes.ensures

pub put_in-adds-requires : goal.put_in-adds-requires
put_in-adds-requires c = adds_bound c.requires.ready

pub missing-new-requires : goal.missing-new-requires
missing-new-requires c = (adds_held c.requires _ c.put_in-adds.ensures, rows_ascend c.requires.ready.state)

pub in_order-come-requires : goal.in_order-come-requires
in_order-come-requires c = new_held c.requires _ c.put_in-adds.ensures _ c.missing-new.ensures

pub in_front-requires : goal.in_front-requires
in_front-requires c = objects_few c.requires

pub returns : goal.returns
returns c =
    changes_made c.requires _ c.in_front.ensures (gone_rows c.requires _ c.taken_out-deletes.ensures c.in_order-gone.ensures)
    (come_rows c.requires _ c.put_in-adds.ensures _ c.missing-new.ensures c.in_order-come.ensures)
