-- The closing section is what is written.
use Rattle.printer.proofs.Turns.{one_turn}
use Rattle.printer.proofs.printing.print_closing.Goals as goal

pub returns-clause-out_after : goal.returns-clause-out_after
returns-clause-out_after g c = one_turn _ c.write_closing-length.ensures
