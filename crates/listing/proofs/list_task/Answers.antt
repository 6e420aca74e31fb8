-- A short buffer is refused; otherwise the section is listed with tables of the one size or the other.
use Rattle.std.proofs.Common.{arith}
use Rattle.card.specs.Represents.{task_of}
use Rattle.properties.proofs.ParameterRows.{rows_few}
use Rattle.prepared.proofs.Lending.{rows_asked, rows_counted, rows_most, parameters_fewer}
use Rattle.listing.proofs.Answering.{list_short}
use Rattle.listing.proofs.list_task.Goals as goal

pub returns-then-out-lt-OUTPUT_BYTES : goal.returns-then-out-lt-OUTPUT_BYTES
returns-then-out-lt-OUTPUT_BYTES c = list_short _ _ _ (omega arith)

pub rows_at_most-requires : goal.rows_at_most-requires
rows_at_most-requires c = let asked = rows_asked _ c.requires in record { arities_right = asked.0; schemas_small = asked.1 }

pub list_in-requires-clause-bags_fit : goal.list_in-requires-clause-bags_fit
list_in-requires-clause-bags_fit c =
    let few = rows_counted c.args.task c.rows_at_most.ensures in
    let fewer = parameters_fewer (task_of c.args.task) in
    (omega (arith, c.if-rows_at_most-le32.true), omega arith)

pub list_in-requires-clause-moves_fit : goal.list_in-requires-clause-moves_fit
list_in-requires-clause-moves_fit c =
    let few = rows_counted c.args.task c.rows_at_most.ensures in
    (omega (arith, c.if-rows_at_most-le32.true), omega arith)

pub list_in-requires-2-clause-bags_fit : goal.list_in-requires-2-clause-bags_fit
list_in-requires-2-clause-bags_fit c = (omega (arith, rows_few _ c.requires.checked), omega arith)

pub list_in-requires-2-clause-moves_fit : goal.list_in-requires-2-clause-moves_fit
list_in-requires-2-clause-moves_fit c = (omega (arith, rows_most _ c.requires.checked), omega arith)
