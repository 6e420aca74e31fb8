-- The rows of the task say which tables are enough for its listing.
use Rattle.std.proofs.Common.{arith}
use Rattle.card.specs.Represents.{task_of}
use Rattle.properties.proofs.ParameterRows.{rows_few}
use Rattle.prepared.proofs.Lending.{rows_asked, rows_counted, rows_most, parameters_fewer}
use Rattle.printer.proofs.printing.print_listing.Goals as goal

pub rows_at_most-requires-clause-arities_right : goal.rows_at_most-requires-clause-arities_right
rows_at_most-requires-clause-arities_right g c = (rows_asked _ c.requires).0

pub rows_at_most-requires-clause-schemas_small : goal.rows_at_most-requires-clause-schemas_small
rows_at_most-requires-clause-schemas_small g c = (rows_asked _ c.requires).1

pub print_in-requires-clause-bags_fit : goal.print_in-requires-clause-bags_fit
print_in-requires-clause-bags_fit g c =
    let few = rows_counted c.args.task c.rows_at_most.ensures in
    let fewer = parameters_fewer (task_of c.args.task) in
    (omega arith, omega arith)

pub print_in-requires-clause-moves_fit : goal.print_in-requires-clause-moves_fit
print_in-requires-clause-moves_fit g c =
    let few = rows_counted c.args.task c.rows_at_most.ensures in
    (omega arith, omega arith)

pub print_in-requires-2-clause-bags_fit : goal.print_in-requires-2-clause-bags_fit
print_in-requires-2-clause-bags_fit g c = (omega (arith, rows_few _ c.requires.checked), omega arith)

pub print_in-requires-2-clause-moves_fit : goal.print_in-requires-2-clause-moves_fit
print_in-requires-2-clause-moves_fit g c = (omega (arith, rows_most _ c.requires.checked), omega arith)
